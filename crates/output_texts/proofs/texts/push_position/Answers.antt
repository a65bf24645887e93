use Rattle.std.proofs.Common.{◌≡◌, ◌*◌, ◌∙◌, append_assoc}
use Rattle.std.specs.Fmt.{decimal}
use Rattle.output_texts.specs.Generated.{position_text}
use Rattle.output_texts.proofs.texts.push_position.Goals as goal

pub returns : goal.returns
unfolding position_text
returns c =
    let large : c.as_bytes.result.now ≡ decimal (3 * c.args.size) = c.as_bytes.ensures.value ∙ c.format.ensures.text in
    let small : c.as_bytes-2.result.now ≡ decimal (2 * c.args.size) = c.as_bytes-2.ensures.value ∙ c.format-2.ensures.text in
    simp append_assoc (rw (← large, ← small) c.push_all.ensures.ok)

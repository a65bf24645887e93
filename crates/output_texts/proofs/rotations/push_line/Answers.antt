use Rattle.std.proofs.Common.{◌≡◌, ◌++◌, List, ℕ, codes, refl, ap, ◌∙◌, subst, append_assoc}
use Rattle.std.specs.Prelude.{OnOk}
use Rattle.desk_text.specs.Texts.{date_text}
use Rattle.output_texts.specs.Rotations.{rotation_line}
use Rattle.output_texts.proofs.rotations.push_line.Goals as goal

pub returns-in-Cancelled : goal.returns-in-Cancelled
unfolding rotation_line
returns-in-Cancelled c =
    let flight = c.as_slice-flight.result.now in
    let rest : c.text-date.result ++ codes "cancelled\n" ≡ codes " " ++ (date_text c.args.leg.now.day ++ codes " cancelled\n") =
    ap (λ (date : List ℕ). date ++ codes "cancelled\n") c.text-date.ensures ∙ simp append_assoc refl in
    rw c.in-Cancelled.is (simp append_assoc (rw (← c.as_slice-flight.ensures.bytes)
    (subst (λ (tail : List ℕ). OnOk c.push_all-in-Cancelled.result (c.push_all-in-Cancelled.new.out.items ≡ c.args.text.now.items ++ (flight ++ tail))) rest c.push_all-in-Cancelled.ensures.ok)))

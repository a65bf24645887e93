use Rattle.std.proofs.Common.{◌≡◌, ◌++◌, ◌∙◌, ℕ, ◌+◌, List, take, ap, arith}
use Rattle.std.specs.List.{enumerate_from, flat_map}
use Rattle.output_texts.specs.Lines.{batches, line_at, line_text}
use Rattle.output_texts.proofs.LineLemmas.{lines_more, batches_more}
use Rattle.output_texts.proofs.lines.journal_text.Goals as goal
use Rattle.output_texts.proofs.lines.journal_text.Goals.{then-is_batch, else-is_batch}

pub loop-entry-preserved : goal.loop-entry-preserved
loop-entry-preserved c =
    let I = c.args.inst.now in
    let h = c.args.entries.now in
    let i = c.loop-entry.entry-index in
    let entry = c.entry-item.result in
    let before = flat_map (line_at I h) (enumerate_from 0 (take i h)) in
    let lines : c.push_line.new.text.items ≡ flat_map (line_at I h) (enumerate_from 0 (take (i + 1) h)) =
    c.in_ok-push_line.ensures
    ∙ ap (λ (text : List ℕ). text ++ line_text I c.loop-entry.batches entry) c.loop-entry.invariant.lines
    ∙ ap (λ (n : ℕ). before ++ line_text I n entry) c.loop-entry.invariant.number
    ∙ lines_more I h i entry c.loop-entry-test.true c.entry-item.is in
    let counted = batches_more I h i entry c.loop-entry-test.true c.entry-item.is c.is_batch.result c.is_batch.ensures in
    elim c.if-is_batch.branch [
      | then-is_batch w ↦
          let more : batches (take (i + 1) h) ≡ batches (take i h) + 1 = rw w.if-is_batch.true at counted in
          record { lines = lines; number = omega (arith, w.batches-is, c.loop-entry.invariant.number, more); few = omega (arith, w.batches-is, c.loop-entry.invariant.few) }
      | else-is_batch w ↦
          let same : batches (take (i + 1) h) ≡ batches (take i h) + 0 = rw w.if-is_batch.false at counted in
          record { lines = lines; number = omega (arith, w.batches-is, c.loop-entry.invariant.number, same); few = omega (arith, w.batches-is, c.loop-entry.invariant.few) }
    ]

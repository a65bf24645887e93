use Rattle.std.proofs.Common.{sym, ◌∙◌}
use Rattle.history_texts.proofs.BatchLaws.{reported-start, reported-batch, reported-move}
use Rattle.history_texts.proofs.texts.push_batches.Goals.{then-is_batch+in_ok-push_batch, else-is_batch}
use Rattle.history_texts.proofs.texts.push_batches.Goals as goal

pub loop-entry-init : goal.loop-entry-init
loop-entry-init c = reported-start c.args.inst.now c.args.text.now.items c.args.entries.now

pub loop-entry-preserved : goal.loop-entry-preserved
loop-entry-preserved c =
    elim c.if-is_batch.branch [
      | then-is_batch+in_ok-push_batch w ↦ rw (w.text-is, w.number-is)
          (reported-batch c.args.inst.now c.args.text.now.items c.loop-entry.text.items w.push_batch.new.text.items c.loop-entry.number c.loop-entry.entry-index c.args.entries.now c.entry-item.result
          c.loop-entry-test.true c.entry-item.is (sym c.is_batch.ensures ∙ w.if-is_batch.true) w.in_ok-push_batch.ensures c.loop-entry.invariant)
      | else-is_batch w ↦ rw (w.text-is, w.number-is)
          (reported-move c.args.inst.now c.args.text.now.items c.loop-entry.text.items c.loop-entry.number c.loop-entry.entry-index c.args.entries.now c.entry-item.result
          c.loop-entry-test.true c.entry-item.is (sym c.is_batch.ensures ∙ w.if-is_batch.false) c.loop-entry.invariant)
    ]

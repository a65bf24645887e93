use Rattle.history_texts.proofs.BatchLaws.{IsReported}
use Rattle.history_texts.proofs.texts.push_batches.Given as goal

abbrev pub invariant-loop-entry : goal.invariant-loop-entry
invariant-loop-entry l = IsReported l.fn.inst l.fn.text.items l.text.items l.number l.entry-index l.entries

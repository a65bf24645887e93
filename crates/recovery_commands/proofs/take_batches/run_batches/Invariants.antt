use Rattle.std.proofs.Common.{◌≡◌, drop}
use Rattle.recovery_commands.proofs.RecoverLaws.{Continues}
use Rattle.recovery_commands.proofs.take_batches.run_batches.Given as goal

abbrev pub invariant-loop-batch : goal.invariant-loop-batch
invariant-loop-batch g l = record {
  goes : Continues l.fn.inst l.fn.moves l.book l.search l.batch-index (drop l.batch-index l.batches) l.batches;
  number : l.number ≡ l.batch-index;
}

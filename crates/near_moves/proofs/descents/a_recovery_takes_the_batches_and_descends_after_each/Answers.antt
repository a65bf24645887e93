use Rattle.std.proofs.Common.{[], arith}
use Rattle.near_moves.proofs.RecoveryLaws.{recovery-batches, recovery-along, recovery-length, recovery-begins, recovery-descends, recovery-ended, recovery-all_wait}
use Rattle.near_moves.proofs.descents.a_recovery_takes_the_batches_and_descends_after_each.Goals as goal

pub returns : goal.returns
returns c = record {
  batches = λ most S batches. recovery-batches most S [] batches;
  entries = λ most S batches. recovery-along most S [] batches tt;
  length = λ most S batches. recovery-length most 900000 S [] batches (omega arith) (omega arith);
  begins = recovery-begins;
  descends = recovery-descends;
  ended = recovery-ended;
  waits = recovery-all_wait;
}

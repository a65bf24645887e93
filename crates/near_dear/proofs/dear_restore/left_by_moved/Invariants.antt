use Rattle.std.proofs.Common.{◌≡◌, ◌+◌, take}
use Rattle.std.specs.Prelude.{sum_by}
use Rattle.near_dear.specs.Restored.{moved_amount}
use Rattle.near_dear.proofs.dear_restore.left_by_moved.Given as goal

abbrev pub invariant-loop-other : goal.invariant-loop-other
invariant-loop-other l = sum_by (λ other. moved_amount l.inst l.plan l.amounts l.at.0 other.0) (take l.other-index l.own) + l.left ≡ l.limit

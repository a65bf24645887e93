use Rattle.std.proofs.Common.{◌≡◌, ◌+◌, take}
use Rattle.std.specs.Prelude.{sum_by}
use Rattle.near_priced.specs.Tables.{refill_amount}
use Rattle.near_priced.proofs.left.left_by_steps.Given as goal

abbrev pub invariant-loop-step : goal.invariant-loop-step
invariant-loop-step l = sum_by (refill_amount l.amounts) (take l.step-index l.steps) + l.left ≡ l.limit

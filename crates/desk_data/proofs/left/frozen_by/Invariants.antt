use Rattle.std.proofs.Common.{◌≡◌, map}
use Rattle.std.specs.List.{range_with_len}
use Rattle.std.specs.Option.{option_or}
use Rattle.desk_data.specs.PlanRows.{row_at}
use Rattle.desk_data.specs.Progress.{leaving}
use Rattle.desk_data.specs.Situation.{frozen_at}
use Rattle.desk_data.proofs.left.frozen_by.Given as goal

-- the rows of the legs so far
abbrev pub invariant-loop-x : goal.invariant-loop-x
invariant-loop-x l = l.frozen.items ≡ map (λ x. option_or (frozen_at l.inst x) (leaving l.inst l.at.0 x (row_at l.plan x))) (range_with_len 0 l.x)

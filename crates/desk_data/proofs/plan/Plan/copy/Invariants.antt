use Rattle.std.proofs.Common.{◌≡◌, take, map}
use Rattle.desk_data.proofs.plan.Plan.copy.Given as goal

abbrev pub invariant-loop-of_one : goal.invariant-loop-of_one
invariant-loop-of_one l = map (λ g. g.items) l.groups.items ≡ map (λ g. g.items) (take l.of_one-index l.of_one-items)

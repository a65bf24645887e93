use Rattle.std.proofs.Common.{◌≡◌, ◌++◌, take}
use Rattle.std.specs.Prelude.{filter}
use Rattle.desk_model.specs.Tidy.{stays_carried}
use Rattle.plan_reads.proofs.tidy.add_staying.Given as goal

abbrev pub invariant-loop-group : goal.invariant-loop-group
invariant-loop-group g l = l.made.items ≡ l.initial.made.items ++ filter (λ group. stays_carried l.inst (g.P.ReadPlan.plan_of l.plan) l.res.0 group.path) (take l.group-index l.groups)

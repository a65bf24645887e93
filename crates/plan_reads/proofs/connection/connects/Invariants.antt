use Rattle.std.proofs.Common.{◌≡◌, ℕ, ◌+◌, ◌<◌, true}
use Rattle.desk_data.specs.Paths.{leg_in}
use Rattle.desk_rules.specs.Passengers.{reaches}
use Rattle.plan_reads.proofs.connection.connects.Given as goal

abbrev pub invariant-loop-i : goal.invariant-loop-i
invariant-loop-i g l = (k : ℕ) → k + 1 < l.i → reaches l.inst (g.P.ReadPlan.plan_of l.plan) (leg_in l.path k) (leg_in l.path (k + 1)) ≡ true

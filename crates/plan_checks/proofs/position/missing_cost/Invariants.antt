use Rattle.std.proofs.Common.{◌≡◌, take}
use Rattle.std.specs.Prelude.{sum_by}
use Rattle.desk_rules.specs.Cost.{missing_aircraft}
use Rattle.plan_checks.specs.Stands.{AreHere}
use Rattle.plan_checks.proofs.position.missing_cost.Given as goal

-- what is missing for the positions so far, and the aircraft that end where the last of them is
abbrev pub invariant-loop-position : goal.invariant-loop-position
invariant-loop-position g l = record {
  cost : l.total.0 ≡ sum_by (missing_aircraft l.inst (g.P.ReadPlan.plan_of l.plan)) (take l.position-index l.inst.parts.positions);
  here : AreHere l.inst l.stands l.gathered.airport.0 l.gathered.count l.here;
}

use Rattle.std.proofs.Common.{◌≡◌, ◌≤◌, ◌*◌, ◌^◌}
use Rattle.added_legs.specs.Stands.{flights_cost}
use Rattle.added_legs.proofs.operating.flights_cost.Given as goal

-- what the aircraft so far cost
abbrev pub invariant-loop-p : goal.invariant-loop-p
invariant-loop-p l = record {
  cost : l.total.0 ≡ flights_cost l.inst l.flights l.p;
  limit : l.total.0 ≤ l.p * 10 ^ 28;
}

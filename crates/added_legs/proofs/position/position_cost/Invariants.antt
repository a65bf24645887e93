use Rattle.std.proofs.Common.{◌≡◌, ◌≤◌, ◌*◌, ◌^◌, take}
use Rattle.std.specs.Prelude.{sum_by}
use Rattle.added_legs.specs.Stands.{missing_by}
use Rattle.added_legs.proofs.position.position_cost.Given as goal

-- what is missing at the positions so far
abbrev pub invariant-loop-position : goal.invariant-loop-position
invariant-loop-position l = record {
  cost : l.total.0 ≡ sum_by (missing_by l.inst l.stands) (take l.position-index l.inst.parts.positions);
  limit : l.total.0 ≤ l.position-index * 10 ^ 27;
}

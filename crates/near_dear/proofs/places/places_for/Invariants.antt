use Rattle.std.proofs.Common.{◌≡◌, ◌≤◌, take}
use Rattle.std.specs.Prelude.{count_by}
use Rattle.near_dear.specs.Drops.{lacks_one}
use Rattle.near_dear.proofs.places.places_for.Given as goal

-- those among the positions so far
abbrev pub invariant-loop-g : goal.invariant-loop-g
invariant-loop-g l = record {
  is : l.count ≡ count_by (lacks_one l.inst l._plan l.plane.0) (take l.g l.inst.parts.positions);
  few : l.count ≤ l.g;
}

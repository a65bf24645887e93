use Rattle.std.proofs.Common.{◌≡◌, ◌*◌, ◌-◌, ◌≤◌, take}
use Rattle.std.specs.Prelude.{sum_by}
use Rattle.desk_rules.specs.Cost.{at_hand}
use Rattle.near_dear.specs.Exchanged.{hand_then}
use Rattle.near_dear.proofs.positions.all_gaps.Given as goal

-- what the positions so far lack
abbrev pub invariant-loop-g : goal.invariant-loop-g
invariant-loop-g l = record {
  now : l.gaps.now ≡ sum_by (λ position. position.count - at_hand l.inst l._plan position) (take l.g l.inst.parts.positions);
  then : l.gaps.then ≡ sum_by (λ position. position.count - hand_then l.inst l._plan l.planes.0.0 l.planes.1.0 l._at position) (take l.g l.inst.parts.positions);
  few : l.gaps.now ≤ l.g * 1000;
  few_then : l.gaps.then ≤ l.g * 1000;
}

use Rattle.std.proofs.Common.{◌≡◌, ◌≤◌}
use Rattle.added_legs.specs.Stands.{hand_by}
use Rattle.added_legs.proofs.position.at_hand.Given as goal

-- those among the aircraft so far
abbrev pub invariant-loop-p : goal.invariant-loop-p
invariant-loop-p l = record {
  count : l.count ≡ hand_by l.inst l.stands l.position l.p;
  limit : l.count ≤ l.p;
}

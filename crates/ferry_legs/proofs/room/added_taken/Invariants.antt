use Rattle.std.proofs.Common.{◌≡◌, ◌≤◌, take}
use Rattle.ferry_legs.specs.Taken.{added_taken}
use Rattle.ferry_legs.proofs.room.added_taken.Given as goal

-- how many of the legs so far do
abbrev pub invariant-loop-i : goal.invariant-loop-i
invariant-loop-i l = record {
  count : l.count ≡ added_taken l.inst l.plan l.taken.movement l.airport.0 l.hour (take l.i l.taken.added.now);
  few : l.count ≤ l.i;
}

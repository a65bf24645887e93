use Rattle.std.proofs.Common.{◌≡◌, ◌≤◌, length, take}
use Rattle.desk_data.specs.Situation.{planes_of}
use Rattle.plan_checks.specs.Stands.{planes_ending_at}
use Rattle.plan_checks.proofs.position.gather.Given as goal

-- the aircraft so far that end there
abbrev pub invariant-loop-p : goal.invariant-loop-p
invariant-loop-p l = record {
  room : length l.here ≡ planes_of l.inst;
  below : l.count ≤ l.p;
  each : take l.count l.here ≡ planes_ending_at l.stands l.airport.0 l.p;
}

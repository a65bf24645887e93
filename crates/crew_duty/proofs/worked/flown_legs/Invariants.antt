use Rattle.std.proofs.Common.{◌≡◌, take}
use Rattle.std.specs.Prelude.{All}
use Rattle.crew_rules.specs.Crews.{flown_among}
use Rattle.crew_duty.specs.Faults.{ArrivesInTime}
use Rattle.crew_duty.proofs.worked.flown_legs.Given as goal

abbrev pub invariant-loop-leg : goal.invariant-loop-leg
invariant-loop-leg l = record {
  exact : l.flown.items ≡ flown_among l.inst.parts l.rows (take l.leg-index l.legs);
  time : All ArrivesInTime l.flown.items;
}

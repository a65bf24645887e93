use Rattle.std.proofs.Common.{◌≡◌, drop}
use Rattle.crew_rules.specs.Crews.{is_in_turn}
use Rattle.crew_duty.proofs.rules.is_in_turn.Given as goal

-- the legs that are left are in turn from here on as all are
abbrev pub invariant-loop-leg : goal.invariant-loop-leg
invariant-loop-leg l = is_in_turn 0 l.legs ≡ is_in_turn l.ready (drop l.leg-index l.legs)

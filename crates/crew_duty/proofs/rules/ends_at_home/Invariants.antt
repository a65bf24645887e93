use Rattle.std.proofs.Common.{◌≡◌, drop}
use Rattle.crew_rules.specs.Crews.{end_of}
use Rattle.crew_duty.proofs.rules.ends_at_home.Given as goal

abbrev pub invariant-loop-leg : goal.invariant-loop-leg
invariant-loop-leg l = end_of l.home.0 l.legs ≡ end_of l.at.0 (drop l.leg-index l.legs)

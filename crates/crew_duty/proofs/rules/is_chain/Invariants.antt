use Rattle.std.proofs.Common.{◌≡◌, drop}
use Rattle.crew_rules.specs.Crews.{is_chain}
use Rattle.crew_duty.proofs.rules.is_chain.Given as goal

-- the legs that are left go on from here as all do from home
abbrev pub invariant-loop-leg : goal.invariant-loop-leg
invariant-loop-leg l = is_chain l.fn.home.0 l.legs ≡ is_chain l.at.0 (drop l.leg-index l.legs)

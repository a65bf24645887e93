use Rattle.std.proofs.Common.{◌≡◌, drop}
use Rattle.near_search.specs.Rotations.{from_leg}
use Rattle.near_search.proofs.rotations.from_leg.Given as goal

-- it is not among the legs that are passed
abbrev pub invariant-loop-i : goal.invariant-loop-i
invariant-loop-i l = from_leg l.leg.0 l.legs ≡ from_leg l.leg.0 (drop l.i l.legs)

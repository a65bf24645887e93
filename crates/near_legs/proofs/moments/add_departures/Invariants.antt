use Rattle.std.proofs.Common.{◌≡◌, ◌++◌, map, take}
use Rattle.desk_rules.specs.Rotations.{dep}
use Rattle.near_legs.proofs.moments.add_departures.Given as goal

abbrev pub invariant-loop-leg : goal.invariant-loop-leg
invariant-loop-leg l = l.all.items ≡ l.fn.all.items ++ map (λ leg. dep l.plan leg.0) (take l.leg-index l.legs)

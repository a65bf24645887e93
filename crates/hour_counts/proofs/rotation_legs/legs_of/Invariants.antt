use Rattle.std.proofs.Common.{◌≡◌, map, take}
use Rattle.desk_units.specs.declared.numbers.Leg.{Leg}
use Rattle.hour_counts.proofs.SortedLaws.{leg_of}
use Rattle.hour_counts.proofs.rotation_legs.legs_of.Given as goal

abbrev pub invariant-loop-rotation_leg : goal.invariant-loop-rotation_leg
invariant-loop-rotation_leg l = map (λ (leg : Leg). leg.0) l.legs.items ≡ map leg_of (take l.rotation_leg-index l.rotation_legs)

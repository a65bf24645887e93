use Rattle.std.proofs.Common.{◌≡◌, ◌++◌, map, take}
use Rattle.build_tables.specs.Names.{leg_place}
use Rattle.build_tables.proofs.legs.push_legs.Given as goal

-- those that stood before, and those of the legs so far
abbrev pub invariant-loop-leg : goal.invariant-loop-leg
invariant-loop-leg l = l.places.items ≡ l.initial.places.items ++ map (leg_place l.files.rotations) (take l.leg-index l.legs)

use Rattle.std.proofs.Common.{◌≡◌, take}
use Rattle.std.specs.List.{flat_map}
use Rattle.build_tables.specs.Names.{leg_places}
use Rattle.build_tables.proofs.legs.leg_places.Given as goal

-- the places of the legs of the rows so far
abbrev pub invariant-loop-row : goal.invariant-loop-row
invariant-loop-row l = l.places.items ≡ flat_map (leg_places l.files.rotations) (take l.row-index l.rows)

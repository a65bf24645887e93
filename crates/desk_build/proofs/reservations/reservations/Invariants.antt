use Rattle.std.proofs.Common.{◌≡◌, map, take, drop}
use Rattle.std.specs.List.{flat_map}
use Rattle.build_tables.specs.Names.{leg_places}
use Rattle.desk_build.specs.Day.{res_info}
use Rattle.desk_build.proofs.reservations.reservations.Given as goal

-- the reservations of the rows so far, and the places of the legs of the others
abbrev pub invariant-loop-row : goal.invariant-loop-row
invariant-loop-row l = record {
  made : l.reservations.items ≡ map (res_info l.tables.files.now.rotations) (take l.row-index l.rows);
  legs : l.rest ≡ flat_map (leg_places l.tables.files.now.rotations) (drop l.row-index l.rows);
}

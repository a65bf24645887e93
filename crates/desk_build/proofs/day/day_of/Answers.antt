use Rattle.std.proofs.Common.{subst, sym}
use Rattle.desk_data.specs.Valid.{AreParts}
use Rattle.desk_build.proofs.ValidParts.{parts_are_valid, flights_known}
use Rattle.desk_build.proofs.day.day_of.Goals as goal

pub parts-requires-clause-known : goal.parts-requires-clause-known
parts-requires-clause-known c = flights_known c.args.tables.now.files.now c.requires.fit

pub of-requires : goal.of-requires
of-requires c = subst AreParts (sym c.in_ok-parts.ensures) (parts_are_valid c.args.tables.now.files.now c.requires.rows c.requires.fit)

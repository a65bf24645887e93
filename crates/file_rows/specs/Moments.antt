-- The moments at which batches become known, as rows of the feed tell them.
use Rattle.std.specs.Prelude.{Option, Some, None}
use Rattle.desk_units.specs.declared.numbers.Minute.{Minute}
use Rattle.file_rows.specs.declared.disruptions.AltRow.{AltRow}
use Rattle.file_rows.specs.declared.disruptions.AltRow.TheVariants as alt

-- the moment that a row tells of its batch: an order tells none, nor does a row that only says that there is a batch
abbrev pub moment_in : AltRow → Option Minute
moment_in (alt.At line at) = Some at
moment_in row = None

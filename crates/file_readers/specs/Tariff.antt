-- The rows of the file of the tariff.
use Rattle.std.specs.Prelude.{ℕ, List, Result}
use Rattle.desk_units.specs.declared.tariff.TariffRow.{TariffRow}
use Rattle.file_rows.specs.declared.cause.Cause.{Cause}
use Rattle.file_rows.specs.Limits.{most_bytes}
use Rattle.comma_rows.specs.Records.{comma_rows}
use Rattle.file_readers.specs.Rows.{record_row}

-- the rows of the records of a text of at most 64 MiB, counted from 1; a longer text is refused as a whole
unfoldable pub tariff_rows : List ℕ → Result (List TariffRow) (ℕ × Cause)
tariff_rows bytes = comma_rows most_bytes record_row bytes

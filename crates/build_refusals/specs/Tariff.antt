-- Why a row of tariff.csv is refused.
use Rattle.std.specs.Prelude.{ℕ, ◌+◌, List, take, Option, Some, None, nat_le, if◌then◌else◌}
use Rattle.std.specs.List.{list_any}
use Rattle.desk_units.specs.declared.tariff.TariffRow.{TariffRow}
use Rattle.file_rows.specs.declared.cause.Cause.{Cause}
use Rattle.file_rows.specs.declared.cause.Cause.TheVariants.{Twice, Limit}
use Rattle.tariff_prices.specs.Rows.{same_key}
use Rattle.file_rows.specs.Limits.{most_tariff_rows}
use Rattle.build_refusals.specs.First.{refusal_from}

-- one row too many, or one that says what a row before it says
unfoldable pub tariff_cause : List TariffRow → ℕ → TariffRow → Option Cause
tariff_cause rows n row =
    if nat_le most_tariff_rows n then Some Limit
    else (if list_any (λ before. same_key before row) (take n rows) then Some Twice
    else None)

-- the first row that has a cause; the rows' lines count from 1
abbrev pub tariff_refusal : List TariffRow → Option (ℕ × Cause)
tariff_refusal rows = refusal_from (tariff_cause rows) (λ n row. n + 1) 0 rows

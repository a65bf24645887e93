-- Below which place a row of the tariff stands that has no cause.
use Rattle.std.proofs.Common.{◌≡◌, ℕ, ◌<◌, List, None, sym}
use Rattle.std.proofs.lemmas.Bool.{leb-false}
use Rattle.desk_units.specs.declared.tariff.TariffRow.{TariffRow}
use Rattle.file_rows.specs.Limits.{most_tariff_rows}
use Rattle.build_refusals.specs.Tariff.{tariff_cause}
use Rattle.build_refusals.proofs.PassLemmas.{tariff_passes}

pub below_limit : (rows : List TariffRow) (n : ℕ) (row : TariffRow) → None ≡ tariff_cause rows n row → n < most_tariff_rows
below_limit rows n row why = leb-false most_tariff_rows n (tariff_passes rows n row (sym why)).limit

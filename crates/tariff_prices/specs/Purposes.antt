-- The rate that a row of a tariff gives: a price or a weight, and what it is for.
use Rattle.std.specs.Prelude.{ℕ, Bool, true, false, ◌&&◌, ◌==◌, Option, Some, None}
use Rattle.desk_units.specs.declared.numbers.Cabin.{Cabin}
use Rattle.desk_units.specs.declared.numbers.Haul.{Haul}
use Rattle.desk_units.specs.declared.tariff.Term.{Term}
use Rattle.desk_units.specs.declared.tariff.TariffRow.{TariffRow}
use Rattle.desk_units.specs.declared.tariff.TariffRow.TheVariants.{Surface, Weight, Delay, Cancel, Downgrade, Care, Compensation, Position}
use Rattle.desk_units.specs.Ranks.{cabin_rank, haul_rank, term_rank}
use Rattle.tariff_prices.specs.declared.purpose.Ladder.{Ladder}
use Rattle.tariff_prices.specs.declared.purpose.Ladder.TheVariants as ladder
use Rattle.tariff_prices.specs.declared.purpose.Purpose.{Purpose}
use Rattle.tariff_prices.specs.declared.purpose.Purpose.TheVariants as purpose
use Rattle.tariff_prices.specs.declared.purpose.Rate.{Rate}

-- the rate of a row: what it is for, and how much it is, a price in ten-thousandths of a unit of money or a weight in
-- thousandths. A family of surface transport has none
unfoldable pub rate_of : TariffRow → Option Rate
rate_of (Surface family) = None
rate_of (Weight term weight) = Some (record { purpose = purpose.Weight term; amount = weight.0 })
rate_of (Delay haul cabin price) = Some (record { purpose = purpose.Delay haul cabin; amount = price.0 })
rate_of (Cancel haul cabin price) = Some (record { purpose = purpose.Cancel haul cabin; amount = price.0 })
rate_of (Downgrade haul reference below price) = Some (record { purpose = purpose.Downgrade haul reference below; amount = price.0 })
rate_of (Care haul threshold price) = Some (record { purpose = purpose.Legal (ladder.Care haul) threshold; amount = price.0 })
rate_of (Compensation haul threshold price) = Some (record { purpose = purpose.Legal (ladder.Compensation haul) threshold; amount = price.0 })
rate_of (Position price) = Some (record { purpose = purpose.Position; amount = price.0 })

-- whether two hauls, two cabins or two terms are the same
abbrev pub same_haul : Haul → Haul → Bool
same_haul a b = haul_rank a == haul_rank b

abbrev pub same_cabin : Cabin → Cabin → Bool
same_cabin a b = cabin_rank a == cabin_rank b

abbrev pub same_term : Term → Term → Bool
same_term a b = term_rank a == term_rank b

-- whether two thresholds are the same number of minutes, or both those who are not carried
abbrev pub same_threshold : Option ℕ → Option ℕ → Bool
same_threshold (Some a) (Some b) = a == b
same_threshold None None = true
same_threshold (Some a) None = false
same_threshold None (Some b) = false

-- whether both are care, or both compensation, for the same haul
abbrev pub same_ladder : Ladder → Ladder → Bool
same_ladder (ladder.Care haul) (ladder.Care other) = same_haul haul other
same_ladder (ladder.Compensation haul) (ladder.Compensation other) = same_haul haul other
same_ladder a b = false

-- whether two purposes are the same
unfoldable pub same_purpose : Purpose → Purpose → Bool
same_purpose (purpose.Weight term) (purpose.Weight other) = same_term term other
same_purpose (purpose.Delay haul cabin) (purpose.Delay other class) = same_haul haul other && same_cabin cabin class
same_purpose (purpose.Cancel haul cabin) (purpose.Cancel other class) = same_haul haul other && same_cabin cabin class
same_purpose (purpose.Downgrade haul reference below) (purpose.Downgrade other booked flown) = same_haul haul other && (same_cabin reference booked && same_cabin below flown)
same_purpose (purpose.Legal l threshold) (purpose.Legal m minutes) = same_ladder l m && same_threshold threshold minutes
same_purpose purpose.Position purpose.Position = true
same_purpose a b = false

-- Rows that make a tariff.
use Rattle.std.specs.Prelude.{◌≡◌, ℕ, ◌<◌, ◌≤◌, Bool, false, ◌||◌, bytes_eq, List, length, All, Option, Some}
use Rattle.std.specs.List.{AllPairs}
use Rattle.std.specs.Option.{ForSome}
use Rattle.desk_units.specs.declared.tariff.TariffRow.{TariffRow}
use Rattle.desk_units.specs.declared.tariff.TariffRow.TheVariants.{Surface, Weight, Delay, Cancel, Downgrade, Care, Compensation, Position}
use Rattle.desk_units.specs.Ranks.{cabin_rank}
use Rattle.tariff_prices.specs.Purposes.{rate_of, same_purpose}
use Rattle.tariff_prices.specs.declared.purpose.Rate.{Rate}

-- whether two rows name the same family of surface transport
abbrev pub same_family : TariffRow → TariffRow → Bool
same_family (Surface family) (Surface other) = bytes_eq family other
same_family row other = false

-- whether two rates are for the same
abbrev pub same_rate : Option Rate → Option Rate → Bool
same_rate (Some rate) (Some other) = same_purpose rate.purpose other.purpose
same_rate rate other = false

-- whether two rows are for the same, though perhaps not at the same price or weight
unfoldable pub same_key : TariffRow → TariffRow → Bool
same_key a b = same_family a b || same_rate (rate_of a) (rate_of b)

-- a price in ten-thousandths, of 9 digits before the point at most
abbrev pub IsPrice : ℕ → Type 0
IsPrice price = price ≤ 9999999999999

-- a threshold is from 1 to 10,000 minutes
pub record IsThreshold (minutes : ℕ) : Type 0 where
  pub least : 1 ≤ minutes
  pub most : minutes ≤ 10000

-- the numbers of a row are in their ranges, and a downgrade is to a cabin below
abbrev pub IsTariffRow : TariffRow → Type 0
IsTariffRow (Surface family) = Unit {0}
IsTariffRow (Weight term weight) = weight.0 ≤ 999999999
IsTariffRow (Delay haul cabin price) = IsPrice price.0
IsTariffRow (Cancel haul cabin price) = IsPrice price.0
IsTariffRow (Downgrade haul reference below price) = (cabin_rank reference < cabin_rank below) × IsPrice price.0
IsTariffRow (Care haul threshold price) = ForSome threshold IsThreshold × IsPrice price.0
IsTariffRow (Compensation haul threshold price) = ForSome threshold IsThreshold × IsPrice price.0
IsTariffRow (Position price) = IsPrice price.0

-- at most 1,000 rows, of which no two are for the same
pub record AreTariffRows (rows : List TariffRow) : Type 0 where
  pub few : length rows ≤ 1000
  pub each : All IsTariffRow rows
  pub distinct : AllPairs (λ a b. same_key a b ≡ false) rows

-- What a tariff says: prices in ten-thousandths of a unit of money, weights in thousandths, delays in minutes.
--
-- The first row that is for what is asked decides. A price that no row gives is 0, and a weight that no row gives is 1.
-- Of the rows that are owed from a threshold on, the one of the greatest threshold that the delay reaches decides, and
-- where it reaches none nothing is owed. No two rows of a tariff are for the same, so their order decides nothing.
use Rattle.std.specs.Prelude.{ℕ, Bool, not, ◌&&◌, ◌||◌, nat_le, if◌then◌else◌, List, find, Option, Some, None, option_map, unwrap_or}
use Rattle.std.specs.List.{list_all, filter_map}
use Rattle.std.specs.Option.{option_map_or}
use Rattle.desk_units.specs.declared.numbers.Cabin.{Cabin}
use Rattle.desk_units.specs.declared.numbers.Haul.{Haul}
use Rattle.desk_units.specs.declared.tariff.Term.{Term}
use Rattle.desk_units.specs.declared.tariff.TariffRow.{TariffRow}
use Rattle.tariff_prices.specs.declared.purpose.Rate.{Rate}
use Rattle.tariff_prices.specs.declared.purpose.Ladder.{Ladder}
use Rattle.tariff_prices.specs.declared.purpose.Ladder.TheVariants as ladder
use Rattle.tariff_prices.specs.declared.purpose.Purpose.{Purpose}
use Rattle.tariff_prices.specs.declared.purpose.Purpose.TheVariants as purpose
use Rattle.tariff_prices.specs.declared.purpose.Step.{Step}
use Rattle.tariff_prices.specs.Purposes.{rate_of, same_ladder, same_purpose}

-- the first rate of the rows that is for this, and how much it is
abbrev pub first_rate : Purpose → List TariffRow → Option Rate
first_rate of rows = find (λ rate. same_purpose rate.purpose of) (filter_map rate_of rows)

unfoldable pub amount_for : Purpose → List TariffRow → Option ℕ
amount_for of rows = option_map (λ rate. rate.amount) (first_rate of rows)

-- the price of what is asked; one that no row gives is 0
unfoldable pub price_by : Purpose → List TariffRow → ℕ
price_by of rows = unwrap_or (amount_for of rows) 0

-- the weight of a term; one that no row gives is 1
unfoldable pub weight_of : List TariffRow → Term → ℕ
weight_of rows term = unwrap_or (amount_for (purpose.Weight term) rows) 1000

-- an hour of delay
unfoldable pub delay_price : List TariffRow → Haul → Cabin → ℕ
delay_price rows h k = price_by (purpose.Delay h k) rows

-- a passenger who is not carried
unfoldable pub cancel_price : List TariffRow → Haul → Cabin → ℕ
cancel_price rows h k = price_by (purpose.Cancel h k) rows

-- a leg in cabin l for who booked cabin k
unfoldable pub downgrade_price : List TariffRow → Haul → Cabin → Cabin → ℕ
downgrade_price rows h k l = price_by (purpose.Downgrade h k l) rows

-- a missing aircraft
unfoldable pub position_price : List TariffRow → ℕ
position_price rows = price_by purpose.Position rows

-- care, and compensation, for passengers who are not carried
unfoldable pub uncarried_care : List TariffRow → Haul → ℕ
uncarried_care rows h = price_by (purpose.Legal (ladder.Care h) None) rows

unfoldable pub uncarried_compensation : List TariffRow → Haul → ℕ
uncarried_compensation rows h = price_by (purpose.Legal (ladder.Compensation h) None) rows

-- the price of a rate that is owed from a threshold on, where it is one of the ladder
abbrev pub step_for : Ladder → Purpose → ℕ → Option Step
step_for l (purpose.Legal other (Some minutes)) price = if same_ladder other l then Some (record { from = minutes; price = record { 0 = price } }) else None
step_for l of price = None

unfoldable pub step_on : Ladder → Rate → Option Step
step_on l rate = step_for l rate.purpose rate.amount

-- the steps of a ladder, in the order of the rows
unfoldable pub steps_by : Ladder → List TariffRow → List Step
steps_by l rows = filter_map (step_on l) (filter_map rate_of rows)

-- whether a delay reaches this threshold, and none that is greater
abbrev pub is_owed_at : ℕ → List Step → Step → Bool
is_owed_at delay all step = nat_le step.from delay && list_all (λ other. not (nat_le other.from delay) || nat_le other.from step.from) all

-- the price of the greatest threshold that a delay reaches; 0 where it reaches none
unfoldable pub owed_at : ℕ → List Step → ℕ
owed_at delay all = option_map_or (λ step. step.price.0) (find (is_owed_at delay all) all) 0

-- care and compensation for a delay of so many minutes
unfoldable pub care_price : List TariffRow → Haul → ℕ → ℕ
care_price rows h delay = owed_at delay (steps_by (ladder.Care h) rows)

unfoldable pub compensation_price : List TariffRow → Haul → ℕ → ℕ
compensation_price rows h delay = owed_at delay (steps_by (ladder.Compensation h) rows)

-- The prices and the weights of a tariff are in their ranges, and nothing is owed to passengers who are in time.
use Rattle.std.proofs.Common.{◌≡◌, ℕ, ◌≤◌, List, None}
use Rattle.std.specs.List.{All}
use Rattle.desk_units.specs.declared.numbers.Cabin.{Cabin}
use Rattle.desk_units.specs.declared.numbers.Haul.{Haul}
use Rattle.desk_units.specs.declared.tariff.Term.{Term}
use Rattle.desk_units.specs.declared.tariff.TariffRow.{TariffRow}
use Rattle.tariff_prices.specs.Rows.{IsPrice, IsTariffRow}
use Rattle.tariff_prices.specs.Prices.{price_by, weight_of, delay_price, cancel_price, downgrade_price, position_price, uncarried_care, uncarried_compensation, steps_by, care_price, compensation_price}
use Rattle.tariff_prices.specs.declared.purpose.Ladder.TheVariants as ladder
use Rattle.tariff_prices.specs.declared.purpose.Purpose.{Purpose}
use Rattle.tariff_prices.specs.declared.purpose.Purpose.TheVariants as purpose
use Rattle.tariff_prices.proofs.RateLemmas.{weight_within, price_within, steps_within}
use Rattle.tariff_prices.proofs.OwedLemmas.{owed_within, owed_in_time}

price_by-le : (of : Purpose) (rows : List TariffRow) → All IsTariffRow rows → IsPrice (price_by of rows)
unfolding price_by
price_by-le of rows all = price_within of rows all

module _ (rows : List TariffRow) (all : All IsTariffRow rows) where
  pub weight_of-le : (term : Term) → weight_of rows term ≤ 999999999
  unfolding weight_of
  weight_of-le term = weight_within rows term all

  pub delay_price-le : (h : Haul) (k : Cabin) → IsPrice (delay_price rows h k)
  unfolding delay_price
  delay_price-le h k = price_by-le (purpose.Delay h k) rows all

  pub cancel_price-le : (h : Haul) (k : Cabin) → IsPrice (cancel_price rows h k)
  unfolding cancel_price
  cancel_price-le h k = price_by-le (purpose.Cancel h k) rows all

  pub downgrade_price-le : (h : Haul) (k l : Cabin) → IsPrice (downgrade_price rows h k l)
  unfolding downgrade_price
  downgrade_price-le h k l = price_by-le (purpose.Downgrade h k l) rows all

  pub position_price-le : IsPrice (position_price rows)
  unfolding position_price
  position_price-le = price_by-le purpose.Position rows all

  pub uncarried_care-le : (h : Haul) → IsPrice (uncarried_care rows h)
  unfolding uncarried_care
  uncarried_care-le h = price_by-le (purpose.Legal (ladder.Care h) None) rows all

  pub uncarried_compensation-le : (h : Haul) → IsPrice (uncarried_compensation rows h)
  unfolding uncarried_compensation
  uncarried_compensation-le h = price_by-le (purpose.Legal (ladder.Compensation h) None) rows all

  pub care_price-le : (h : Haul) (delay : ℕ) → IsPrice (care_price rows h delay)
  unfolding care_price
  care_price-le h delay = owed_within delay (steps_by (ladder.Care h) rows) (steps_within (ladder.Care h) rows all)

  pub compensation_price-le : (h : Haul) (delay : ℕ) → IsPrice (compensation_price rows h delay)
  unfolding compensation_price
  compensation_price-le h delay = owed_within delay (steps_by (ladder.Compensation h) rows) (steps_within (ladder.Compensation h) rows all)

  pub no_care_in_time : (h : Haul) → care_price rows h 0 ≡ 0
  unfolding care_price
  no_care_in_time h = owed_in_time (steps_by (ladder.Care h) rows) (steps_within (ladder.Care h) rows all)

  pub no_compensation_in_time : (h : Haul) → compensation_price rows h 0 ≡ 0
  unfolding compensation_price
  no_compensation_in_time h = owed_in_time (steps_by (ladder.Compensation h) rows) (steps_within (ladder.Compensation h) rows all)

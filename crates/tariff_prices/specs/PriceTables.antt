-- What is kept of a tariff, so that a look-up takes no walk over its rows.
use Rattle.std.specs.Prelude.{◌≡◌, ◌≤◌, List, ◌==◌, false, All, AllPairs, None}
use Rattle.std.specs.List.Sorted.{IsPermutation, IsNonDecreasingBy}
use Rattle.desk_units.specs.declared.money.Price.{Price}
use Rattle.desk_units.specs.declared.money.Weight.{Weight}
use Rattle.desk_units.specs.declared.numbers.Cabin.{Cabin}
use Rattle.desk_units.specs.declared.numbers.Cabin.TheVariants as cabin
use Rattle.desk_units.specs.declared.numbers.Haul.{Haul}
use Rattle.desk_units.specs.declared.numbers.Haul.TheVariants as haul
use Rattle.desk_units.specs.declared.tariff.Term.{Term}
use Rattle.desk_units.specs.declared.tariff.Term.TheVariants as term
use Rattle.desk_units.specs.declared.tariff.TariffRow.{TariffRow}
use Rattle.tariff_prices.specs.Rows.{IsPrice}
use Rattle.tariff_prices.specs.Prices.{weight_of, price_by, steps_by}
use Rattle.tariff_prices.specs.declared.purpose.Ladder.{Ladder}
use Rattle.tariff_prices.specs.declared.purpose.Ladder.TheVariants as ladder
use Rattle.tariff_prices.specs.declared.purpose.Purpose.{Purpose}
use Rattle.tariff_prices.specs.declared.purpose.Purpose.TheVariants as purpose
use Rattle.tariff_prices.specs.declared.purpose.Step.{Step}
use Rattle.tariff_prices.specs.declared.tables.PriceTables.{PriceTables}
use Rattle.tariff_prices.specs.declared.by.ByCabin.{ByCabin}
use Rattle.tariff_prices.specs.declared.by.ByHaul.{ByHaul}
use Rattle.tariff_prices.specs.declared.by.ByTerm.{ByTerm}

-- what a table has at a cabin, at a haul and at a term
abbrev pub at_cabin : {T : Type 0} → ByCabin T → Cabin → T
at_cabin table cabin.F = table.f
at_cabin table cabin.B = table.b
at_cabin table cabin.E = table.e

abbrev pub at_haul : {T : Type 0} → ByHaul T → Haul → T
at_haul table haul.D = table.d
at_haul table haul.C = table.c
at_haul table haul.I = table.i

abbrev pub at_term : {T : Type 0} → ByTerm T → Term → T
at_term table term.Operating = table.operating
at_term table term.Delay = table.delay
at_term table term.Cancellation = table.cancellation
at_term table term.Downgrade = table.downgrade
at_term table term.Legal = table.legal
at_term table term.Position = table.position

-- a weight, and a price, as the rows give it
pub record IsWeightOf (rows : List TariffRow) (of : Term) (weight : Weight) : Type 0 where
  pub amount : weight.0 ≡ weight_of rows of
  pub limit : weight.0 ≤ 999999999

pub record IsPriceOf (rows : List TariffRow) (of : Purpose) (price : Price) : Type 0 where
  pub amount : price.0 ≡ price_by of rows
  pub limit : IsPrice price.0

-- no two thresholds are the same
abbrev pub AreApart : List Step → Type 0
AreApart all = AllPairs (λ a b. (a.from == b.from) ≡ false) all

-- all that is owed, from the least threshold on, and no threshold twice
pub record AreSteps (all steps : List Step) : Type 0 where
  pub same : IsPermutation all steps
  pub apart : AreApart all
  pub rising : IsNonDecreasingBy (λ step. step.from) steps
  pub limits : All (λ step. IsPrice step.price.0) steps

-- all that the rows say is owed
abbrev pub AreStepsOf : List TariffRow → Ladder → List Step → Type 0
AreStepsOf rows of steps = AreSteps (steps_by of rows) steps

-- each table has what the rows say
pub record AreTables (rows : List TariffRow) (tables : PriceTables) : Type 0 where
  pub weights : (k : Term) → IsWeightOf rows k (at_term tables.weights k)
  pub delays : (h : Haul) (k : Cabin) → IsPriceOf rows (purpose.Delay h k) (at_cabin (at_haul tables.delays h) k)
  pub cancels : (h : Haul) (k : Cabin) → IsPriceOf rows (purpose.Cancel h k) (at_cabin (at_haul tables.cancels h) k)
  pub downgrades : (h : Haul) (k l : Cabin) → IsPriceOf rows (purpose.Downgrade h k l) (at_cabin (at_cabin (at_haul tables.downgrades h) k) l)
  pub position : IsPriceOf rows purpose.Position tables.position
  pub uncarried_care : (h : Haul) → IsPriceOf rows (purpose.Legal (ladder.Care h) None) (at_haul tables.uncarried_care h)
  pub uncarried_compensation : (h : Haul) → IsPriceOf rows (purpose.Legal (ladder.Compensation h) None) (at_haul tables.uncarried_compensation h)
  pub care : (h : Haul) → AreStepsOf rows (ladder.Care h) (at_haul tables.care h).items
  pub compensation : (h : Haul) → AreStepsOf rows (ladder.Compensation h) (at_haul tables.compensation h).items

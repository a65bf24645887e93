-- The rates of a tariff's rows are in their ranges.
use Rattle.std.proofs.Common.{◌≡◌, ℕ, ◌≤◌, Bool, true, false, cond, List, [], ◌∷◌, Option, Some, None, refl, sym, ap, subst, ◌∙◌, arith}
use Rattle.std.specs.List.{All, AllByRecursion, cons_option, filter_map, find}
use Rattle.std.specs.Option.{ForSome, option_map, unwrap_or}
use Rattle.std.proofs.lemmas.Bool.{false≢true}
use Rattle.std.proofs.lemmas.List.Elements.{All-nil, All-cons, All-weaker, recursion_from_All}
use Rattle.std.proofs.lemmas.Option.{none-some, same_Some}
use Rattle.desk_units.specs.declared.tariff.Term.{Term}
use Rattle.desk_units.specs.declared.tariff.TariffRow.{TariffRow}
use Rattle.desk_units.specs.declared.tariff.TariffRow.TheVariants.{Surface, Weight, Delay, Cancel, Downgrade, Care, Compensation, Position}
use Rattle.tariff_prices.specs.Purposes.{rate_of, same_ladder, same_purpose}
use Rattle.tariff_prices.specs.Rows.{IsPrice, IsTariffRow, IsThreshold}
use Rattle.tariff_prices.specs.Prices.{amount_for, step_on, steps_by}
use Rattle.tariff_prices.specs.declared.purpose.Rate.{Rate}
use Rattle.tariff_prices.specs.declared.purpose.Ladder.{Ladder}
use Rattle.tariff_prices.specs.declared.purpose.Ladder.TheVariants as ladder
use Rattle.tariff_prices.specs.declared.purpose.Purpose.{Purpose}
use Rattle.tariff_prices.specs.declared.purpose.Purpose.TheVariants as purpose
use Rattle.tariff_prices.specs.declared.purpose.Step.{Step}

-- ---- prices and weights

-- what holds of a rate, where there is one
abbrev pub ForRate : Option Rate → (Rate → Type 0) → Type 0
ForRate o P = ForSome o P

rate_has : (P : Rate → Type 0) (g : Rate) → P g → ForRate (Some g) P
rate_has P g h = λ x is. subst P (same_Some g x is) h

-- how much a row gives is at most the greatest price
amount_at : (row : TariffRow) → IsTariffRow row → ForRate (rate_of row) (λ g. IsPrice g.amount)
unfolding rate_of
amount_at (Surface family) fits = λ g is. absurd (none-some g is)
amount_at (Weight term weight) fits = rate_has (λ g. IsPrice g.amount) (record { purpose = purpose.Weight term; amount = weight.0 }) (omega (arith, fits))
amount_at (Delay haul cabin price) fits = rate_has (λ g. IsPrice g.amount) (record { purpose = purpose.Delay haul cabin; amount = price.0 }) fits
amount_at (Cancel haul cabin price) fits = rate_has (λ g. IsPrice g.amount) (record { purpose = purpose.Cancel haul cabin; amount = price.0 }) fits
amount_at (Downgrade haul reference below price) fits = rate_has (λ g. IsPrice g.amount) (record { purpose = purpose.Downgrade haul reference below; amount = price.0 }) fits.1
amount_at (Care haul threshold price) fits = rate_has (λ g. IsPrice g.amount) (record { purpose = purpose.Legal (ladder.Care haul) threshold; amount = price.0 }) fits.1
amount_at (Compensation haul threshold price) fits = rate_has (λ g. IsPrice g.amount) (record { purpose = purpose.Legal (ladder.Compensation haul) threshold; amount = price.0 }) fits.1
amount_at (Position price) fits = rate_has (λ g. IsPrice g.amount) (record { purpose = purpose.Position; amount = price.0 }) fits

-- and a weight at most the greatest weight
no_weight : (term : Term) (g x : Rate) → Some g ≡ Some x → same_purpose g.purpose (purpose.Weight term) ≡ false → same_purpose x.purpose (purpose.Weight term) ≡ true → ⊥
no_weight term g x is differs same = false≢true (sym differs ∙ ap (λ y. same_purpose y.purpose (purpose.Weight term)) (same_Some g x is) ∙ same)

weight_at : (term : Term) (row : TariffRow) → IsTariffRow row → ForRate (rate_of row) (λ g. same_purpose g.purpose (purpose.Weight term) ≡ true → g.amount ≤ 999999999)
unfolding rate_of same_purpose
weight_at term (Surface family) fits = λ g is. absurd (none-some g is)
weight_at term (Weight other weight) fits = λ g is same. subst (λ (x : Rate). x.amount ≤ 999999999) (same_Some (record { purpose = purpose.Weight other; amount = weight.0 }) g is) fits
weight_at term row fits = λ g is same. absurd (no_weight term _ g is refl same)

found_if : (most other : ℕ) (test : Bool) (rate : Rate) (rest : Option Rate) → (test ≡ true → rate.amount ≤ most) → unwrap_or (option_map (λ g. g.amount) rest) other ≤ most → unwrap_or (option_map (λ g. g.amount) (cond test (Some rate) rest)) other ≤ most
found_if most other true rate rest h k = h refl
found_if most other false rate rest h k = k

found_or : (of : Purpose) (most other : ℕ) (o : Option Rate) (rest : List Rate) → ForRate o (λ g. same_purpose g.purpose of ≡ true → g.amount ≤ most) → unwrap_or (option_map (λ g. g.amount) (find (λ g. same_purpose g.purpose of) rest)) other ≤ most → unwrap_or (option_map (λ g. g.amount) (find (λ g. same_purpose g.purpose of) (cons_option o rest))) other ≤ most
found_or of most other None rest h k = k
found_or of most other (Some g) rest h k = found_if most other (same_purpose g.purpose of) g (find (λ g. same_purpose g.purpose of) rest) (h g refl) k

-- what is found is in the range of all that is for the same, and so is what stands for it where nothing is
amount_within : (of : Purpose) (most other : ℕ) → other ≤ most → ((row : TariffRow) → IsTariffRow row → ForRate (rate_of row) (λ g. same_purpose g.purpose of ≡ true → g.amount ≤ most)) → (rows : List TariffRow) → AllByRecursion IsTariffRow rows → unwrap_or (amount_for of rows) other ≤ most
unfolding amount_for
amount_within of most other least each [] all = least
amount_within of most other least each (row ∷ rows) all =
    found_or of most other (rate_of row) (filter_map rate_of rows) (each row all.0) (amount_within of most other least each rows all.1)

pub weight_within : (rows : List TariffRow) (term : Term) → All IsTariffRow rows → unwrap_or (amount_for (purpose.Weight term) rows) 1000 ≤ 999999999
weight_within rows term all = amount_within (purpose.Weight term) 999999999 1000 (omega arith) (weight_at term) rows (recursion_from_All IsTariffRow rows all)

pub price_within : (of : Purpose) (rows : List TariffRow) → All IsTariffRow rows → unwrap_or (amount_for of rows) 0 ≤ 9999999999999
price_within of rows all = amount_within of 9999999999999 0 (omega arith) (λ row fits g is same. amount_at row fits g is) rows (recursion_from_All IsTariffRow rows all)

-- ---- steps

-- a step's threshold and its price are in their ranges
pub record IsStep (step : Step) : Type 0 where
  pub threshold : IsThreshold step.from
  pub price : IsPrice step.price.0

step_if : (test : Bool) (step : Step) → IsStep step → ForSome (cond test (Some step) None) IsStep
step_if true step h = λ s is. subst IsStep (same_Some step s is) h
step_if false step h = λ s is. absurd (none-some s is)

-- so are those of a row
step_at : (l : Ladder) (row : TariffRow) → IsTariffRow row → ForRate (rate_of row) (λ g. ForSome (step_on l g) IsStep)
unfolding rate_of step_on
step_at l (Surface family) fits = λ g is. absurd (none-some g is)
step_at l (Care haul (Some minutes) price) fits =
    rate_has (λ g. ForSome (step_on l g) IsStep) (record { purpose = purpose.Legal (ladder.Care haul) (Some minutes); amount = price.0 }) (step_if (same_ladder (ladder.Care haul) l) (record { from = minutes; price = price }) (record { threshold = fits.0 minutes refl; price = fits.1 }))
step_at l (Compensation haul (Some minutes) price) fits =
    rate_has (λ g. ForSome (step_on l g) IsStep) (record { purpose = purpose.Legal (ladder.Compensation haul) (Some minutes); amount = price.0 }) (step_if (same_ladder (ladder.Compensation haul) l) (record { from = minutes; price = price }) (record { threshold = fits.0 minutes refl; price = fits.1 }))
step_at l row fits = rate_has (λ g. ForSome (step_on l g) IsStep) _ (λ s is. absurd (none-some s is))

pub each_or_none : (P : Step → Type 0) (o : Option Step) (all : List Step) → ForSome o P → All P all → All P (cons_option o all)
each_or_none P None all h k = k
each_or_none P (Some x) all h k = All-cons P x all (h x refl) k

each_rate : (P : Step → Type 0) (l : Ladder) (o : Option Rate) (rest : List Rate) → ForRate o (λ g. ForSome (step_on l g) P) → All P (filter_map (step_on l) rest) → All P (filter_map (step_on l) (cons_option o rest))
each_rate P l None rest h k = k
each_rate P l (Some g) rest h k = each_or_none P (step_on l g) (filter_map (step_on l) rest) (h g refl) k

-- what holds of the steps of each row holds of all
pub each_step : (P : Step → Type 0) (l : Ladder) (rows : List TariffRow) → AllByRecursion (λ row. ForRate (rate_of row) (λ g. ForSome (step_on l g) P)) rows → All P (steps_by l rows)
unfolding steps_by
each_step P l [] h = All-nil P
each_step P l (row ∷ rows) h = each_rate P l (rate_of row) (filter_map rate_of rows) h.0 (each_step P l rows h.1)

pub steps_within : (l : Ladder) (rows : List TariffRow) → All IsTariffRow rows → All IsStep (steps_by l rows)
steps_within l rows all =
    each_step IsStep l rows (recursion_from_All (λ row. ForRate (rate_of row) (λ g. ForSome (step_on l g) IsStep)) rows (All-weaker IsTariffRow (λ row. ForRate (rate_of row) (λ g. ForSome (step_on l g) IsStep)) (step_at l) rows all))

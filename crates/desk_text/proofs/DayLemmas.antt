-- The days of the years before, and the greatest day.
use Rattle.std.proofs.Common.{◌≡◌, ℕ, zero, suc, ◌+◌, ◌-◌, ◌*◌, ◌/◌, ◌<◌, ◌≤◌, true, ◌&&◌, List, length, get_or, take, sum, map, ◌∙◌, ap, sym, refl, arith, leb, add-one}
use Rattle.std.specs.List.{range_with_len}
use Rattle.std.proofs.lemmas.Bool.{and_parts, leb-true}
use Rattle.std.proofs.lemmas.List.FromFn.{map-range_with_len_more}
use Rattle.std.proofs.lemmas.List.Sums.{sum_by_push, sum_by_more_le}
use Rattle.desk_text.specs.Days.{days_of_year, days_before}

pub days_before-zero : days_before 0 ≡ 0
unfolding days_before
days_before-zero = refl

pub days_before-suc : (year : ℕ) → days_before (suc year) ≡ days_before year + days_of_year year
unfolding days_before
days_before-suc year = ap days_before (sym (add-one year)) ∙ ap sum (map-range_with_len_more days_of_year 0 year year (omega arith)) ∙ sum_by_push (λ x. x) (map days_of_year (range_with_len 0 year)) (days_of_year year)

leap_more : (year : ℕ) → 365 * year + (year + 3) / 4 + days_of_year year ≡ 365 * (year + 1) + (year + 4) / 4
leap_more year = grind arith

-- each fourth year has one day more
pub days_before_is : (year : ℕ) → 365 * year + (year + 3) / 4 ≡ days_before year
days_before_is zero = sym days_before-zero
days_before_is (suc year) = omega (arith, days_before_is year, days_before-suc year, leap_more year)

-- a day that is in its month is below what its year ends with
pub day_is_below : (start day month end : ℕ) (months : List ℕ)
    → ((leb 1 month && leb month 12) && (leb 1 day && leb day (get_or months (month - 1) 0))) ≡ true
    → length months ≡ 12 → start + sum months ≤ end → start + sum (take (month - 1) months) + (day - 1) < end
day_is_below start day month end months is_day twelve room =
    let both = and_parts _ _ is_day in
    let in_year = and_parts _ _ both.0 in
    let in_month = and_parts _ _ both.1 in
    let first : 1 ≤ month = leb-true _ _ in_year.0 in
    let last : month ≤ 12 = leb-true _ _ in_year.1 in
    let least : 1 ≤ day = leb-true _ _ in_month.0 in
    let most : day ≤ get_or months (month - 1) 0 = leb-true _ _ in_month.1 in
    let there : month - 1 < length months = omega arith in
    omega (arith, sum_by_more_le (λ x. x) months (month - 1) 0 there)

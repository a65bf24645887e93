-- The year and the month of a day.
use Rattle.std.proofs.Common.{◌≡◌, ℕ, zero, suc, ◌+◌, ◌-◌, ◌*◌, ◌/◌, ◌<◌, ◌≤◌, ◌⊎◌, inl, inr, Bool, true, false, cond, ◌&&◌, List, [], ◌∷◌, length, get_or, take, sum, ap, arith, leb, refl, add-one}
use Rattle.std.specs.Prelude.{count_by, Some}
use Rattle.std.specs.List.{range_with_len}
use Rattle.std.proofs.lemmas.Bool.{le-leb, and_from}
use Rattle.std.proofs.lemmas.Bool.Decides.{nat_tests}
use Rattle.std.proofs.lemmas.List.Sums.{sum_by-cons, sum_by_more}
use Rattle.desk_text.specs.Days.{is_leap, month_lengths, days_before, day_of}
use Rattle.desk_text.specs.Texts.{count_passed, month_start, year_of, day_in_year, months_passed, month_of, day_in_month}
use Rattle.desk_text.proofs.DayLemmas.{days_before_is, days_before-suc}

-- ---- counting periods

none_passed : (p : ℕ → Bool) (n a : ℕ) → ((k : ℕ) → a ≤ k → p k ≡ false) → count_by p (range_with_len a n) ≡ 0
none_passed p zero a later = refl
none_passed p (suc n) a later =
    let here : cond {A = ℕ} (p a) 1 0 ≡ 0 = rw (later a (omega arith)) refl in
    omega (arith, sum_by-cons (λ k. cond (p k) 1 0) a (range_with_len (a + 1) n), here, none_passed p n (a + 1) (λ k le. later k (omega arith)))

passed_up_to : (p : ℕ → Bool) (n a k : ℕ) → a ≤ k → k ≤ a + n → ((j : ℕ) → j < k → p j ≡ true) → ((j : ℕ) → k ≤ j → p j ≡ false) → a + count_by p (range_with_len a n) ≡ k
passed_up_to p zero a k from to before later = omega arith
passed_up_to p (suc n) a k from to before later =
    let cases : (a < k) ⊎ (k ≡ a) = grind arith in
    elim cases [
      | inl less ↦
          let here : cond {A = ℕ} (p a) 1 0 ≡ 1 = rw (before a less) refl in
          omega (arith, sum_by-cons (λ j. cond (p j) 1 0) a (range_with_len (a + 1) n), here, passed_up_to p n (a + 1) k (omega arith) (omega arith) before later)
      | inr same ↦ omega (arith, none_passed p (suc n) a (λ j le. later j (omega arith)), same)
    ]

not_passed : (a b : ℕ) → b < a → leb a b ≡ false
not_passed a b lt = grind (arith, nat_tests)

-- that many periods have passed on a day of the next one
passed_is : (start : ℕ → ℕ) (many n k : ℕ) → ((i j : ℕ) → i ≤ j → start i ≤ start j) → k ≤ many → start k ≤ n → n < start (k + 1) → count_passed start many n ≡ k
passed_is start many n k grows le from to =
    omega (
      arith,
      passed_up_to (λ j. leb (start (j + 1)) n) many 0 k (omega arith) (omega arith)
          (λ j lt. le-leb (start (j + 1)) n (omega (arith, grows (j + 1) k (omega arith))))
          (λ j later. not_passed (start (j + 1)) n (omega (arith, grows (k + 1) (j + 1) (omega arith)))),
    )

-- ---- years

days_before_grows : (i j : ℕ) → i ≤ j → days_before i ≤ days_before j
days_before_grows i j le = omega (arith, days_before_is i, days_before_is j)

year_begun : (day : ℕ) → days_before (4 * day / 1461) ≤ day
year_begun day = omega (arith, days_before_is (4 * day / 1461))

year_not_over : (day : ℕ) → day < days_before (4 * day / 1461 + 1)
year_not_over day = omega (arith, days_before_is (4 * day / 1461 + 1))

year_of_is : (day : ℕ) → day < 36525 → year_of day ≡ 4 * day / 1461
unfolding year_of
year_of_is day lt = passed_is days_before 100 day (4 * day / 1461) days_before_grows (omega arith) (year_begun day) (year_not_over day)

-- ---- months

months_grow : (xs : List ℕ) (i j : ℕ) → i ≤ j → sum (take i xs) ≤ sum (take j xs)
months_grow [] zero j le = omega arith
months_grow [] (suc i) zero le = absurd (omega arith)
months_grow [] (suc i) (suc j) le = omega arith
months_grow (x ∷ xs) zero j le = omega arith
months_grow (x ∷ xs) (suc i) zero le = absurd (omega arith)
months_grow (x ∷ xs) (suc i) (suc j) le =
    omega (arith, months_grow xs i j (omega arith), sum_by-cons (λ n. n) x (take i xs), sum_by-cons (λ n. n) x (take j xs))

month_starts_grow : (year i j : ℕ) → i ≤ j → month_start year i ≤ month_start year j
month_starts_grow year i j le = months_grow (month_lengths (is_leap year)) i j le

months_passed_is : (day k : ℕ) → k ≤ 12 → month_start (year_of day) k ≤ day_in_year day → day_in_year day < month_start (year_of day) (k + 1) → months_passed day ≡ k
unfolding months_passed
months_passed_is day k le from to = passed_is (month_start (year_of day)) 12 (day_in_year day) k (month_starts_grow (year_of day)) le from to

-- the month of a day, months and days counted from 0
record IsThere (xs : List ℕ) (n : ℕ) : Type 0 where
  month : ℕ
  within : month < length xs
  begun : sum (take month xs) ≤ n
  not_over : n < sum (take month xs) + get_or xs month 0

there_later : (x : ℕ) (xs : List ℕ) (n : ℕ) → x ≤ n → IsThere xs (n - x) → IsThere (x ∷ xs) n
there_later x xs n le h = record {
  month = suc h.month;
  within = omega (arith, h.within);
  begun = omega (arith, h.begun, sum_by-cons (λ m. m) x (take h.month xs));
  not_over = omega (arith, h.not_over, sum_by-cons (λ m. m) x (take h.month xs));
}

-- a day of these months lies in one of them
month_there : (xs : List ℕ) (n : ℕ) → n < sum xs → IsThere xs n
month_there [] n lt = absurd (omega arith)
month_there (x ∷ xs) n lt =
    let cases : (n < x) ⊎ (x ≤ n) = grind arith in
    elim cases [
      | inl here ↦ record { month = 0; within = omega arith; begun = omega arith; not_over = omega arith }
      | inr later ↦ there_later x xs n later (month_there xs (n - x) (omega (arith, sum_by-cons (λ m. m) x xs)))
    ]

-- ---- dates

pub twelve_months : (leap : Bool) → length (month_lengths leap) ≡ 12
unfolding month_lengths
twelve_months leap = refl

pub days_of_months : (leap : Bool) → sum (month_lengths leap) ≡ cond leap 366 365
unfolding month_lengths
days_of_months true = refl
days_of_months false = refl

rest_of_year : (day year : ℕ) → days_before year ≤ day → day < days_before (year + 1) → day - days_before year < sum (month_lengths (is_leap year))
rest_of_year day year begun to = omega (arith, days_of_months (is_leap year), days_before-suc year, ap days_before (add-one year))

-- the parts of a date are those of the day whose place they give
date_is : (day k left : ℕ) → k < 12 → month_start (year_of day) k + left ≡ day - days_before (year_of day) → left < get_or (month_lengths (is_leap (year_of day))) k 0
    → (months_passed day ≡ k) × (day_in_month day ≡ left + 1)
unfolding day_in_year day_in_month
date_is day k left lt place within =
    let there : k < length (month_lengths (is_leap (year_of day))) = omega (arith, twelve_months (is_leap (year_of day))) in
    let month : months_passed day ≡ k = months_passed_is day k (omega arith) (omega (arith, place)) (omega (arith, place, within, sum_by_more (λ n. n) (month_lengths (is_leap (year_of day))) k 0 there)) in
    (month, rw month (omega (arith, place)))

-- such a day there is
day_of_is : (day month year n : ℕ) → month < 12 → 1 ≤ day → day ≤ get_or (month_lengths (is_leap year)) month 0 → days_before year + month_start year month + (day - 1) ≡ n → day_of day (month + 1) year ≡ Some n
unfolding day_of
day_of_is day month year n lt least most is =
    let back : month + 1 - 1 ≡ month = omega arith in
    let in_year : (leb 1 (month + 1) && leb (month + 1) 12) ≡ true = and_from _ _ (le-leb 1 (month + 1) (omega arith)) (le-leb (month + 1) 12 (omega arith)) in
    let in_month : (leb 1 day && leb day (get_or (month_lengths (is_leap year)) month 0)) ≡ true = and_from _ _ (le-leb 1 day least) (le-leb day _ most) in
    rw (back, in_year, in_month) (ap Some is)

pub reads_back : (day : ℕ) → day < 36525 → day_of (day_in_month day) (month_of day) (year_of day) ≡ Some day
reads_back day lt =
    let year : year_of day ≡ 4 * day / 1461 = year_of_is day lt in
    let begun : days_before (year_of day) ≤ day = rw year (year_begun day) in
    let to : day < days_before (year_of day + 1) = rw year (year_not_over day) in
    let there : IsThere (month_lengths (is_leap (year_of day))) (day - days_before (year_of day)) = month_there (month_lengths (is_leap (year_of day))) (day - days_before (year_of day)) (rest_of_year day (year_of day) begun to) in
    let k = there.month in
    let left : ℕ = day - days_before (year_of day) - month_start (year_of day) k in
    let few : k < 12 = omega (arith, there.within, twelve_months (is_leap (year_of day))) in
    let parts = date_is day k left few (omega (arith, there.begun)) (omega (arith, there.begun, there.not_over)) in
    rw (parts.0, parts.1) (day_of_is (left + 1) k (year_of day) day few (omega arith) (omega (arith, there.begun, there.not_over)) (omega (arith, there.begun, begun)))

pub two_digit_year : (day : ℕ) → day < 36525 → year_of day < 100
two_digit_year day lt = omega (arith, year_of_is day lt)

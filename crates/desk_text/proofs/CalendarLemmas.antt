-- The days of the years 2000 to 2099 have their numbers in jiff's calendar too, 10,957 days on.
use Rattle.std.proofs.Common.{◌≡◌, ℕ, zero, suc, ◌+◌, ◌-◌, ◌<◌, ◌≤◌, Bool, true, false, cond, ◌&&◌, length, get_or, take, sum, Option, Some, None, refl, sym, ap, ◌∙◌, arith, rules, add-one, leb, ℤ, pos}
use Rattle.std.proofs.lemmas.Bool.{le-leb, leb-true, and_parts, and_from}
use Rattle.std.proofs.lemmas.Bool.Decides.{nat_tests}
use Rattle.std.proofs.lemmas.List.Sums.{sum_by_more}
use Rattle.jiff.specs.Words.{is_leap_year, days_in_month, days_in_year, epoch_day, IsDate, IsYmd}
use Rattle.jiff_core.specs.declared.civil.date.Date.{Date}
use Rattle.jiff_core.specs.Calendar.{days_of_months, day_count, days_from_civil}
use Rattle.jiff_core.proofs.SignedLemmas.{signed_arith}
use Rattle.jiff_core.proofs.MarchLemmas.{day_count-early}
use Rattle.jiff.proofs.Family.{epoch_day_injective}
use Rattle.jiff_core.proofs.CalendarLemmas.{days_from_civil-day_count, day_count-day_of_year, day_count-next_year}
use Rattle.desk_text.specs.Days.{is_leap, days_of_year, month_lengths, days_before, day_of}
use Rattle.desk_text.specs.Texts.{year_of, month_of, day_in_month}
use Rattle.desk_text.proofs.DayLemmas.{days_before-zero, days_before-suc, days_before_is, day_is_below}
use Rattle.desk_text.proofs.DateLemmas.{twelve_months, days_of_months as days_of_all_months, reads_back, two_digit_year}

-- the year of the calendar
abbrev pub year_at : ℕ → ℤ
year_at year = pos (2000 + year)

leap_is : (year : ℕ) → year < 100 → is_leap_year (year_at year) ≡ is_leap year
leap_is year lt = grind (arith, nat_tests)

month_is : (year month : ℕ) → year < 100 → month < 12 → days_in_month (year_at year) (suc month) ≡ get_or (month_lengths (is_leap year)) month 0
unfolding month_lengths
month_is year zero lt few = refl
month_is year (suc zero) lt few = ap (λ leap. cond {A = ℕ} leap 29 28) (leap_is year lt)
month_is year (suc (suc zero)) lt few = refl
month_is year (suc (suc (suc zero))) lt few = refl
month_is year (suc (suc (suc (suc zero)))) lt few = refl
month_is year (suc (suc (suc (suc (suc zero))))) lt few = refl
month_is year (suc (suc (suc (suc (suc (suc zero)))))) lt few = refl
month_is year (suc (suc (suc (suc (suc (suc (suc zero))))))) lt few = refl
month_is year (suc (suc (suc (suc (suc (suc (suc (suc zero)))))))) lt few = refl
month_is year (suc (suc (suc (suc (suc (suc (suc (suc (suc zero))))))))) lt few = refl
month_is year (suc (suc (suc (suc (suc (suc (suc (suc (suc (suc zero)))))))))) lt few = refl
month_is year (suc (suc (suc (suc (suc (suc (suc (suc (suc (suc (suc zero))))))))))) lt few = refl
month_is year (suc (suc (suc (suc (suc (suc (suc (suc (suc (suc (suc (suc month)))))))))))) lt few = absurd (omega arith)

months_are : (year n : ℕ) → year < 100 → n ≤ 12 → days_of_months (year_at year) n ≡ sum (take n (month_lengths (is_leap year)))
unfolding days_of_months
months_are year zero lt few = refl
months_are year (suc n) lt few =
    let there : n < length (month_lengths (is_leap year)) = omega (arith, twelve_months (is_leap year)) in
    omega (arith, months_are year n lt (omega arith), month_is year n lt (omega arith), rw add-one at (sum_by_more (λ x. x) (month_lengths (is_leap year)) n 0 there))

first_year : day_count (pos 2000) 1 1 ≡ 4_382_910
first_year = day_count-early (pos 2000) 11999 1 1 refl (omega arith) (omega arith) (omega arith)

years_are : (year : ℕ) → year ≤ 100 → day_count (year_at year) 1 1 ≡ 4_382_910 + days_before year
years_are zero le = omega (arith, first_year, days_before-zero)
years_are (suc year) le =
    let longer : days_in_year (year_at year) ≡ days_of_year year = ap (λ leap. cond {A = ℕ} leap 366 365) (leap_is year (omega arith)) in
    omega (arith, years_are year (omega arith), days_before-suc year, longer, day_count-next_year (year_at year) (year_at (suc year)) (omega (arith, signed_arith)) (omega (arith, signed_arith)))

-- the number of a day of a month of a year
abbrev pub number_at : ℕ → ℕ → ℕ → ℕ
number_at day month year = days_before year + sum (take (month - 1) (month_lengths (is_leap year))) + (day - 1)

pub number_is : (day month year : ℕ) → year < 100 → month ≤ 12 → 1 ≤ day → days_from_civil (year_at year) month day ≡ pos (10957 + number_at day month year)
number_is day month year lt few first =
    omega (arith, signed_arith, days_from_civil-day_count (year_at year) month day, day_count-day_of_year (year_at year) month day first, years_are year (omega arith), months_are year (month - 1) lt (omega arith))

unless : (test : Bool) (x : Option ℕ) → ¬ (test ≡ true) → cond test x None ≡ None
unless true x not = absurd (not refl)
unless false x not = refl

-- whether there is such a day
abbrev is_day : ℕ → ℕ → ℕ → Bool
is_day day month year = (leb 1 month && leb month 12) && (leb 1 day && leb day (get_or (month_lengths (is_leap year)) (month - 1) 0))

module _ (day month year : ℕ) (lt : year < 100) where
  longest : 1 ≤ month → month ≤ 12 → days_in_month (year_at year) month ≡ get_or (month_lengths (is_leap year)) (month - 1) 0
  longest first last = let same : suc (month - 1) ≡ month = omega arith in rw same at (month_is year (month - 1) lt (omega arith))

  -- a day that the calendar has is there
  there : IsDate (year_at year) (pos month) (pos day) → is_day day month year ≡ true
  there h =
      let first : 1 ≤ month = omega (arith, signed_arith, h.1) in
      let last : month ≤ 12 = omega (arith, signed_arith, h.1) in
      let least : 1 ≤ day = omega (arith, signed_arith, h.2) in
      let most : day ≤ days_in_month (year_at year) month = omega (arith, signed_arith, h.2) in
      and_from _ _ (and_from _ _ (le-leb 1 month first) (le-leb month 12 last)) (and_from _ _ (le-leb 1 day least) (le-leb day _ (omega (arith, longest first last))))

  -- and the calendar has the day that is
  has : is_day day month year ≡ true → IsDate (year_at year) (pos month) (pos day)
  has h =
      let both = and_parts _ _ h in
      let in_year = and_parts _ _ both.0 in
      let in_month = and_parts _ _ both.1 in
      let first : 1 ≤ month = leb-true _ _ in_year.0 in
      let last : month ≤ 12 = leb-true _ _ in_year.1 in
      let least : 1 ≤ day = leb-true _ _ in_month.0 in
      let most : day ≤ get_or (month_lengths (is_leap year)) (month - 1) 0 = leb-true _ _ in_month.1 in
      ((omega (arith, signed_arith), omega (arith, signed_arith)), (omega (arith, signed_arith), omega (arith, signed_arith)), (omega (arith, signed_arith), omega (arith, signed_arith, longest first last)))

  -- its number is below that of the first day of the year 2100
  number_small : IsDate (year_at year) (pos month) (pos day) → number_at day month year < 36525
  number_small h =
      day_is_below (days_before year) day month 36525 (month_lengths (is_leap year)) (there h) (twelve_months (is_leap year))
      (omega (arith, days_of_all_months (is_leap year), days_before-suc year, days_before_is (suc year)))

  -- the number of a day that the calendar has
  day_number : IsDate (year_at year) (pos month) (pos day) → day_of day month year ≡ Some (number_at day month year)
  unfolding day_of
  day_number h = rw (there h) refl

  -- there is no number of one that it has not
  pub no_day : ¬ (IsDate (year_at year) (pos month) (pos day)) → day_of day month year ≡ None
  unfolding day_of
  no_day not = unless (is_day day month year) (Some (number_at day month year)) (λ is. not (has is))

  -- jiff's number of that day
  pub epoch_day_is : (date : Date) → IsDate (year_at year) (pos month) (pos day) → IsYmd (year_at year) (pos month) (pos day) date → epoch_day date ≡ pos (10957 + number_at day month year)
  epoch_day_is date h parts =
      let is_month : date.month ≡ month = omega (arith, signed_arith, parts.1) in
      let is_day : date.day ≡ day = omega (arith, signed_arith, parts.2) in
      rw (parts.0, is_month, is_day) (number_is day month year lt (omega (arith, signed_arith, h.1)) (omega (arith, signed_arith, h.2)))

  -- a number that is as many days on as jiff's is that of the day
  pub same_number : (date : Date) (n : ℕ) → IsDate (year_at year) (pos month) (pos day) → IsYmd (year_at year) (pos month) (pos day) date → epoch_day date ≡ pos (10957 + n)
      → (Some n ≡ day_of day month year) × (n < 36525)
  same_number date n h parts is =
      let same : n ≡ number_at day month year = omega (arith, signed_arith, sym is ∙ epoch_day_is date h parts) in
      (ap Some same ∙ sym (day_number h), omega (arith, number_small h))

-- ---- dates by their numbers

some_of : (test : Bool) (x n : ℕ) → cond test (Some x) None ≡ Some n → (test ≡ true) × (x ≡ n)
some_of true x n e = (refl, cc)
some_of false x n e = absurd cc

module _ (day : ℕ) (lt : day < 36525) where
  read_back : (is_day (day_in_month day) (month_of day) (year_of day) ≡ true) × (number_at (day_in_month day) (month_of day) (year_of day) ≡ day)
  unfolding day_of
  read_back = some_of _ (number_at (day_in_month day) (month_of day) (year_of day)) day (reads_back day lt)

  is_date : IsDate (year_at (year_of day)) (pos (month_of day)) (pos (day_in_month day))
  is_date = has (day_in_month day) (month_of day) (year_of day) (two_digit_year day lt) read_back.0

  -- the date with the parts that are written
  written : Date
  written = record {
    year = year_at (year_of day);
    month = month_of day;
    day = day_in_month day;
    year_in = is_date.0;
    month_in = (omega (arith, signed_arith, is_date.1), omega (arith, signed_arith, is_date.1));
    day_in = (omega (arith, signed_arith, is_date.2), omega (arith, signed_arith, is_date.2));
  }

  -- the date whose number is as many days on has the parts that are written
  pub parts_are : (date : Date) → epoch_day date ≡ pos (10957 + day) → (date.year ≡ year_at (year_of day)) × (date.month ≡ month_of day) × (date.day ≡ day_in_month day)
  unfolding written
  parts_are date is =
      let number : epoch_day written ≡ pos (10957 + day) = epoch_day_is (day_in_month day) (month_of day) (year_of day) (two_digit_year day lt) written is_date (refl, refl, refl) ∙ ap (λ n. pos (10957 + n)) read_back.1 in
      epoch_day_injective date written (is ∙ sym number)

-- 2000-01-01
pub first_day : (date : Date) → IsYmd (pos 2000) (pos 1) (pos 1) date → epoch_day date ≡ pos 10957
first_day date parts =
    let is_date : IsDate (pos 2000) (pos 1) (pos 1) = search rules in
    let none : number_at 1 1 0 ≡ 0 = omega (arith, days_before-zero) in
    rw none at (epoch_day_is 1 1 0 (omega arith) date is_date parts)

-- How days, times, moments, cabins and directions are written.
use Rattle.std.specs.Prelude.{ℕ, ◌+◌, ◌-◌, ◌/◌, ◌%◌, Bool, true, false, List, [], ◌∷◌, ◌++◌, sum, take, count_by, codes, nat_le}
use Rattle.std.specs.List.{range_with_len}
use Rattle.desk_units.specs.declared.numbers.Cabin.{Cabin}
use Rattle.desk_units.specs.declared.numbers.Cabin.TheVariants as cabin
use Rattle.desk_text.specs.Days.{is_leap, month_lengths, days_before}

-- how many of the first `many` periods have passed on day n: each ends where the next one starts
abbrev pub count_passed : (ℕ → ℕ) → ℕ → ℕ → ℕ
count_passed start many n = count_by (λ k. nat_le (start (k + 1)) n) (range_with_len 0 many)

-- the day of the year on which a month starts, months and days counted from 0
abbrev pub month_start : ℕ → ℕ → ℕ
month_start year month = sum (take month (month_lengths (is_leap year)))

-- the year of a day: how many of the hundred years from 2000 have passed
unfoldable pub year_of : ℕ → ℕ
year_of day = count_passed days_before 100 day

-- how many days of its year lie before a day
unfoldable pub day_in_year : ℕ → ℕ
day_in_year day = day - days_before (year_of day)

-- how many months of its year have passed
unfoldable pub months_passed : ℕ → ℕ
months_passed day = count_passed (month_start (year_of day)) 12 (day_in_year day)

-- the month of a day, from 1
abbrev pub month_of : ℕ → ℕ
month_of day = months_passed day + 1

-- the place of a day in its month, from 1
unfoldable pub day_in_month : ℕ → ℕ
day_in_month day = day_in_year day - month_start (year_of day) (months_passed day) + 1

-- a number below 100 in two digits
abbrev pub two_digits : ℕ → List ℕ
two_digits n = (48 + n / 10) ∷ (48 + n % 10) ∷ []

-- dd/mm/yy
unfoldable pub date_text : ℕ → List ℕ
date_text day = two_digits (day_in_month day) ++ codes "/" ++ two_digits (month_of day) ++ codes "/" ++ two_digits (year_of day)

-- HH:MM of a minute of a day
unfoldable pub time_text : ℕ → List ℕ
time_text minute = two_digits (minute / 60) ++ codes ":" ++ two_digits (minute % 60)

-- dd/mm/yy HH:MM
abbrev pub moment_text : ℕ → List ℕ
moment_text at = date_text (at / 1440) ++ codes " " ++ time_text (at % 1440)

-- the letter of a cabin
abbrev pub cabin_text : Cabin → List ℕ
cabin_text cabin.F = codes "F"
cabin_text cabin.B = codes "B"
cabin_text cabin.E = codes "E"

-- the direction of a reservation: A for outbound, R for inbound
abbrev pub direction_text : Bool → List ℕ
direction_text false = codes "A"
direction_text true = codes "R"

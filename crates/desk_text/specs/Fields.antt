-- What a field spells, or why it is refused.
use Rattle.std.specs.Prelude.{ℕ, ◌+◌, ◌-◌, ◌*◌, ◌^◌, Bool, true, false, List, [], ◌∷◌, length, fold, Option, Some, None, option_map, ok_or, Result, Ok, Err, bytes_eq, codes, nat_lt, nat_le, ◌==◌, ◌&&◌, if◌then◌else◌}
use Rattle.std.specs.List.{list_all}
use Rattle.std.specs.Char.{is_ascii_digit}
use Rattle.desk_units.specs.declared.numbers.Seats.{Seats}
use Rattle.desk_units.specs.declared.numbers.Haul.{Haul}
use Rattle.desk_units.specs.declared.numbers.Haul.TheVariants as hauls
use Rattle.desk_units.specs.declared.numbers.Cabin.{Cabin}
use Rattle.desk_units.specs.declared.numbers.Cabin.TheVariants as cabins
use Rattle.desk_units.specs.declared.money.Price.{Price}
use Rattle.desk_units.specs.declared.money.Weight.{Weight}
use Rattle.file_rows.specs.declared.cause.Cause.{Cause}
use Rattle.file_rows.specs.declared.cause.Cause.TheVariants.{Size, Number, Date, Time, Word}
use Rattle.file_rows.specs.Bytes.{point, slash, colon, plus}
use Rattle.desk_text.specs.Days.{day_of}
use Rattle.desk_text.specs.Cuts.{cut}

infixl 10 ◌>>=◌
-- what is read, and then what f reads of it
abbrev pub ◌>>=◌ : {A B : Type 0} → Option A → (A → Option B) → Option B
(Some x) >>= f = f x
None >>= f = None

-- the value where the test holds
abbrev pub only_if : {A : Type 0} → Bool → A → Option A
only_if test x = if test then Some x else None

-- a name: 1 to 32 bytes
abbrev pub name_of : List ℕ → Result (List ℕ) Cause
name_of field = if nat_le 1 (length field) && nat_le (length field) 32 then Ok field else Err Size

-- the number that decimal digits spell
abbrev pub decimal_value : List ℕ → ℕ
decimal_value digits = fold (λ n digit. 10 * n + (digit - 48)) 0 digits

-- 1 to so many digits
unfoldable pub digits_of : ℕ → List ℕ → Option ℕ
digits_of longest bytes = only_if ((nat_le 1 (length bytes) && nat_le (length bytes) longest) && list_all is_ascii_digit bytes) (decimal_value bytes)

-- 1 to 9 digits that spell a number from low to high
unfoldable pub number_from : ℕ → ℕ → List ℕ → Option ℕ
number_from low high bytes = do
  n ← digits_of 9 bytes
  only_if (nat_le low n && nat_le n high) n

-- a number: 1 to 9 digits, from low to high
abbrev pub number_of : ℕ → ℕ → List ℕ → Result ℕ Cause
number_of low high field = ok_or (number_from low high field) Number

-- what 1 to so many digits after a point are worth, counted in the last of these places
unfoldable pub fraction_of : ℕ → List ℕ → Option ℕ
fraction_of places bytes = do
  n ← digits_of places bytes
  Some (n * 10 ^ (places - length bytes))

-- the parts of a number round its point, or all of it where it has none
abbrev pub decimal_parts : ℕ → ℕ → List ℕ → Option (List ℕ × List ℕ) → Option ℕ
decimal_parts longest places bytes None = do
  whole ← digits_of longest bytes
  Some (10 ^ places * whole)
decimal_parts longest places bytes (Some parts) = do
  whole ← digits_of longest parts.0
  fraction ← fraction_of places parts.1
  Some (10 ^ places * whole + fraction)

-- 1 to so many digits, then perhaps a point and 1 to so many digits, counted in the last place
unfoldable pub decimal_of : ℕ → ℕ → List ℕ → Option ℕ
decimal_of longest places bytes = decimal_parts longest places bytes (cut point bytes)

-- a price: 1 to 9 digits, then perhaps a point and 1 to 4 digits, in ten-thousandths
abbrev pub price_of : List ℕ → Result Price Cause
price_of field = ok_or (option_map (λ n. let price : Price = record { 0 = n } in price) (decimal_of 9 4 field)) Number

-- a weight: 1 to 6 digits, then perhaps a point and 1 to 3 digits, in thousandths
abbrev pub weight_of : List ℕ → Result Weight Cause
weight_of field = ok_or (option_map (λ n. let weight : Weight = record { 0 = n } in weight) (decimal_of 6 3 field)) Number

-- three numbers from 0 to 999 with slashes between them
unfoldable pub three_numbers : List ℕ → Option Seats
three_numbers bytes = do
  first ← cut slash bytes
  business ← cut slash first.1
  f ← number_from 0 999 first.0
  b ← number_from 0 999 business.0
  e ← number_from 0 999 business.1
  Some (record { f = f; b = b; e = e })

-- the seats of the three cabins
abbrev pub seats_of : List ℕ → Result Seats Cause
seats_of field = ok_or (three_numbers field) Number

-- a year of two digits, or one from 2000 to 2099, counted from 2000
unfoldable pub year_from : List ℕ → Option ℕ
year_from bytes = do
  n ← digits_of 4 bytes
  if length bytes == 2 then Some n else only_if (length bytes == 4 && (nat_le 2000 n && nat_le n 2099)) (n - 2000)

-- a day and a month of 1 or 2 digits and a year, with slashes between them, that exist
unfoldable pub day_from : List ℕ → Option ℕ
day_from bytes = do
  first ← cut slash bytes
  second ← cut slash first.1
  day ← digits_of 2 first.0
  month ← digits_of 2 second.0
  year ← year_from second.1
  day_of day month year

-- a date: dd/mm/yy or dd/mm/yyyy of the years 2000 to 2099, as its day's number
abbrev pub date_of : List ℕ → Result ℕ Cause
date_of field = ok_or (day_from field) Date

-- two digits that spell a number from 0 to 59
abbrev pub minutes_from : ℕ → ℕ → Option ℕ
minutes_from a b = only_if ((is_ascii_digit a && is_ascii_digit b) && nat_lt (10 * (a - 48) + (b - 48)) 60) (10 * (a - 48) + (b - 48))

-- what comes after the hours: the minutes, and perhaps '+' and one digit for the days
unfoldable pub minutes_and_days : List ℕ → Option (ℕ × Option ℕ)
minutes_and_days (a ∷ b ∷ []) = do
  minutes ← minutes_from a b
  Some (minutes, None)
minutes_and_days (a ∷ b ∷ sign ∷ days ∷ []) = do
  minutes ← minutes_from a b
  only_if (sign == plus && is_ascii_digit days) (minutes, Some (days - 48))
minutes_and_days _ = None

-- the hours, from 0 to 23, in 1 or 2 digits, a colon, and what comes after them
unfoldable pub minute_from : List ℕ → Option (ℕ × Option ℕ)
minute_from bytes = do
  parts ← cut colon bytes
  hours ← digits_of 2 parts.0
  later ← minutes_and_days parts.1
  only_if (nat_lt hours 24) (60 * hours + later.0, later.1)

-- a time: the minute of the day, and the days that are added where there is a '+'
abbrev pub time_of : List ℕ → Result (ℕ × Option ℕ) Cause
time_of field = ok_or (minute_from field) Time

-- a haul, by its letter
abbrev pub haul_of : List ℕ → Result Haul Cause
haul_of field = if bytes_eq field (codes "D") then Ok hauls.D else (if bytes_eq field (codes "C") then Ok hauls.C else (if bytes_eq field (codes "I") then Ok hauls.I else Err Word))

-- a cabin, by its letter
abbrev pub cabin_of : List ℕ → Result Cabin Cause
cabin_of field = if bytes_eq field (codes "F") then Ok cabins.F else (if bytes_eq field (codes "B") then Ok cabins.B else (if bytes_eq field (codes "E") then Ok cabins.E else Err Word))

-- whether passengers return: 'A' for those who fly out, 'R' for those who fly back
abbrev pub inbound_of : List ℕ → Result Bool Cause
inbound_of field = if bytes_eq field (codes "A") then Ok false else (if bytes_eq field (codes "R") then Ok true else Err Word)

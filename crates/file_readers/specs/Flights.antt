-- The file of flights.
use Rattle.std.specs.Prelude.{ℕ, ◌+◌, ◌*◌, ◌%◌, List, Option, Some, None, Result, Ok, Err, ok_or, bytes_eq, codes, nat_lt, nat_le, ◌==◌, ◌&&◌, if◌then◌else◌}
use Rattle.std.specs.List.{find, range_with_len}
use Rattle.file_rows.specs.declared.cause.Cause.{Cause}
use Rattle.file_rows.specs.declared.cause.Cause.TheVariants.{Time}
use Rattle.desk_text.specs.Rows.{RowOf, ◌>>=◌, next_field}
use Rattle.desk_text.specs.Fields.{name_of, time_of}
use Rattle.file_rows.specs.declared.legs.FlightRow.{FlightRow}

-- a minute of the day, so many days later
abbrev pub days_later : ℕ → Option ℕ → ℕ
days_later minute None = minute
days_later minute (Some days) = minute + 1440 * days

-- a departure, in minutes after the midnight of the flight's date
unfoldable pub departure_of : List ℕ → Result ℕ Cause
departure_of field = do
  time ← time_of field
  Ok (days_later time.0 time.1)

-- the first moment after this one that shows this minute of the day; there is one for each minute below 1,440
unfoldable pub first_after : ℕ → ℕ → Option ℕ
first_after moment minute = find (λ at. at % 1440 == minute) (range_with_len (moment + 1) 1440)

-- the arrival of what departs then: with its days given, 1 to 2,880 minutes later; else as soon as its minute comes
abbrev pub arrival_at : ℕ → ℕ → Option ℕ → Result ℕ Cause
arrival_at departure minute (Some days) = let arrival = minute + 1440 * days in if nat_lt departure arrival && nat_le arrival (departure + 2880) then Ok arrival else Err Time
arrival_at departure minute None = ok_or (first_after departure minute) Time

-- an arrival, in minutes after the midnight of the flight's date
unfoldable pub arrival_of : ℕ → List ℕ → Result ℕ Cause
arrival_of departure field = do
  time ← time_of field
  arrival_at departure time.0 time.1

-- the previous flight, or none where the field is '0'
unfoldable pub previous_of : List ℕ → Result (Option (List ℕ)) Cause
previous_of field = if bytes_eq field (codes "0") then Ok None else (name_of field >>= λ name. Ok (Some name))

-- flight, origin, destination, departure, arrival, previous flight
unfoldable pub flight_row : RowOf FlightRow
flight_row line fields = do
  first ← next_field fields
  second ← next_field first.1
  third ← next_field second.1
  fourth ← next_field third.1
  fifth ← next_field fourth.1
  sixth ← next_field fifth.1
  flight ← name_of first.0
  origin ← name_of second.0
  dest ← name_of third.0
  dep ← departure_of fourth.0
  arr ← arrival_of dep fifth.0
  prev ← previous_of sixth.0
  Ok (record { line = line; flight = flight; origin = origin; dest = dest; dep = dep; arr = arr; prev = prev })

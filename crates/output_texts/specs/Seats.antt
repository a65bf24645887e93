-- The seats that are left on each leg, as a table.
use Rattle.std.specs.Prelude.{◌≡◌, ℕ, ◌-◌, ◌<◌, min, ◌==◌, if◌then◌else◌, List, [], length, slice_index_or, slice_set}
use Rattle.desk_units.specs.declared.numbers.Cabin.{Cabin}
use Rattle.desk_units.specs.declared.numbers.Cabin.TheVariants as cabin
use Rattle.desk_units.specs.declared.numbers.Seats.{Seats}
use Rattle.output_texts.specs.declared.demand.Trip.{Trip}
use Rattle.output_texts.specs.declared.demand.Trip.TheVariants.{One, Two}
use Rattle.output_texts.specs.declared.demand.Request.{Request}
use Rattle.output_texts.specs.Fleet.{kind_of, seats_of}
use Rattle.output_texts.specs.Schedule.{legs_of}
use Rattle.output_texts.specs.Demand.{Line, left, itinerary_line}

-- no seats in any cabin
abbrev pub no_seats : Seats
no_seats = record { f = 0; b = 0; e = 0 }

-- the seats of one cabin
abbrev pub in_cabin : Seats → Cabin → ℕ
in_cabin seats cabin.F = seats.f
in_cabin seats cabin.B = seats.b
in_cabin seats cabin.E = seats.e

-- so many fewer seats in one cabin
abbrev pub fewer : Seats → Cabin → ℕ → Seats
fewer seats cabin.F count = record { f = seats.f - count; b = seats.b; e = seats.e }
fewer seats cabin.B count = record { f = seats.f; b = seats.b - count; e = seats.e }
fewer seats cabin.E count = record { f = seats.f; b = seats.b; e = seats.e - count }

-- the seats of an aircraft
abbrev pub plane_seats : ℕ → Seats
plane_seats plane = record { f = seats_of (kind_of plane) cabin.F; b = seats_of (kind_of plane) cabin.B; e = seats_of (kind_of plane) cabin.E }

-- the seats that some lines leave on leg x, by cabin
abbrev pub seats_left : List Line → ℕ → Seats
seats_left lines x = record { f = left lines cabin.F x; b = left lines cabin.B x; e = left lines cabin.E x }

-- the row of leg x in a table
abbrev pub row_at : List Seats → ℕ → Seats
row_at rows x = slice_index_or rows x no_seats

-- a table has a row for each leg of a day, with the seats that some lines leave
pub record AreLeft (size : ℕ) (lines : List Line) (rows : List Seats) : Type 0 where
  pub legs : length rows ≡ legs_of size
  pub each : (x : ℕ) → x < legs_of size → row_at rows x ≡ seats_left lines x

-- the legs of a trip are among the first n, and no leg stands twice
abbrev pub IsTripWithin : ℕ → Trip → Type 0
IsTripWithin n (One x) = x < n
IsTripWithin n (Two x y) = (x < y) × (y < n)

-- for how many passengers of a reservation a table has seats on each of its legs
abbrev pub room_on : List Seats → Cabin → Trip → ℕ
room_on rows cabin (One x) = in_cabin (row_at rows x) cabin
room_on rows cabin (Two x y) = min (in_cabin (row_at rows x) cabin) (in_cabin (row_at rows y) cabin)

abbrev pub granted_by : List Seats → Request → ℕ
granted_by rows request = min request.passengers (room_on rows request.cabin request.trip)

-- a table with so many fewer seats of a cabin on one leg
abbrev pub row_without : List Seats → Cabin → ℕ → ℕ → List Seats
row_without rows cabin count x = slice_set rows x (fewer (row_at rows x) cabin count)

-- a table with so many fewer seats on each leg of a reservation
abbrev pub trip_without : List Seats → Cabin → ℕ → Trip → List Seats
trip_without rows cabin count (One x) = row_without rows cabin count x
trip_without rows cabin count (Two x y) = row_without (row_without rows cabin count x) cabin count y

abbrev pub rows_without : List Seats → Request → ℕ → List Seats
rows_without rows request count = trip_without rows request.cabin count request.trip

-- a table after a reservation that got seats, as far as there are some, and its line where it got any
abbrev pub rows_served : List Seats → Request → List Seats
rows_served rows request = if granted_by rows request == 0 then rows else rows_without rows request (granted_by rows request)

abbrev pub text_served : List Seats → Request → List ℕ
text_served rows request =
    if granted_by rows request == 0 then [] else itinerary_line (record { request = request; count = granted_by rows request })

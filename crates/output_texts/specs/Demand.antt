-- The reservations of a day of a size: forty times the size ask for seats, one after another.
use Rattle.std.specs.Prelude.{ℕ, zero, suc, ◌+◌, ◌-◌, ◌*◌, ◌/◌, ◌%◌, min, Bool, false, ◌==◌, ◌&&◌, ◌||◌, not, if◌then◌else◌, List, [], ◌∷◌, ◌++◌, map, sum_by, flat_map, codes, decimal}
use Rattle.desk_units.specs.declared.numbers.Cabin.{Cabin}
use Rattle.desk_units.specs.declared.numbers.Cabin.TheVariants as cabin
use Rattle.desk_units.specs.Ranks.{cabin_rank}
use Rattle.desk_text.specs.Texts.{cabin_text}
use Rattle.output_texts.specs.declared.demand.Trip.{Trip}
use Rattle.output_texts.specs.declared.demand.Trip.TheVariants.{One, Two}
use Rattle.output_texts.specs.declared.demand.Request.{Request}
use Rattle.output_texts.specs.Draws.{seeded, state_after, draw}
use Rattle.output_texts.specs.Fleet.{planes_of, is_bus, kind_of, seats_of}
use Rattle.output_texts.specs.Schedule.{flight_name}

-- how many reservations ask for seats
abbrev pub requests_of : ℕ → ℕ
requests_of size = 40 * size

-- the legs of a reservation by its kind, 0 to 3: the first, the second or the third leg of its aircraft, or the second and
-- the third; aircraft p flies the legs from 4p on
abbrev pub trip_of : ℕ → ℕ → Trip
trip_of plane kind =
    if kind == 0 then One (4 * plane) else (
    if kind == 1 then One (4 * plane + 1) else (
    if kind == 2 then One (4 * plane + 2) else Two (4 * plane + 1) (4 * plane + 2)))

-- one in five travels in business, but in no bus
abbrev pub cabin_of : ℕ → ℕ → Cabin
cabin_of plane luck = if (luck == 0) && not (is_bus plane) then cabin.B else cabin.E

-- what a reservation asks for, by five draws: an aircraft, a kind, 1 to 8 passengers, a price of 50 to 249 and the cabin
unfoldable pub request_at : List ℕ → ℕ → ℕ → Request
request_at state size j =
    let plane = draw state 0 (planes_of size) in
    record {
      number = j;
      trip = trip_of plane (draw state 1 4);
      passengers = 1 + draw state 2 8;
      price = 50 + draw state 3 200;
      cabin = cabin_of plane (draw state 4 5);
    }

-- the state after the draws of all tours, three of each aircraft
abbrev pub after_tours : ℕ → ℕ → List ℕ
after_tours seed size = state_after (seeded seed) (3 * planes_of size)

-- what each reservation asks for, in their order: their draws come after those of all tours
abbrev pub request_of : ℕ → ℕ → ℕ → Request
request_of seed size j = request_at (state_after (after_tours seed size) (5 * j)) size j

-- the legs of a trip
abbrev pub trip_legs : Trip → List ℕ
trip_legs (One x) = x ∷ []
trip_legs (Two x y) = x ∷ y ∷ []

-- a line of itineraries.csv: a reservation that asked, and the passengers who got seats
pub record Line : Type 0 where
  pub request : Request
  pub count : ℕ

-- whether leg x is one of a trip's
abbrev pub has_leg : Trip → ℕ → Bool
has_leg (One first) x = first == x
has_leg (Two first second) x = (first == x) || (second == x)

-- the seats that a line takes of a cabin on leg x
unfoldable pub taken_by : Cabin → ℕ → Line → ℕ
taken_by cabin x line =
    if (cabin_rank line.request.cabin == cabin_rank cabin) && has_leg line.request.trip x then line.count else 0

-- the seats of a cabin on leg x that some lines leave
unfoldable pub left : List Line → Cabin → ℕ → ℕ
left lines cabin x = seats_of (kind_of (x / 4)) cabin - sum_by (taken_by cabin x) lines

-- the seats of a cabin that some lines leave on each leg of a trip
abbrev pub left_on : List Line → Cabin → Trip → ℕ
left_on lines cabin (One x) = left lines cabin x
left_on lines cabin (Two x y) = min (left lines cabin x) (left lines cabin y)

-- for how many passengers of a reservation the lines before leave seats
unfoldable pub granted : List Line → Request → ℕ
granted lines request = min request.passengers (left_on lines request.cabin request.trip)

-- the lines with that of one reservation more; it has none where there is no seat
unfoldable pub with_request : List Line → Request → List Line
with_request lines request =
    if granted lines request == 0 then lines else lines ++ (record { request = request; count = granted lines request }) ∷ []

-- the lines of the first j reservations
unfoldable pub lines_of : ℕ → ℕ → ℕ → List Line
lines_of seed size zero = []
lines_of seed size (suc j) = with_request (lines_of seed size j) (request_of seed size j)

-- FLIGHT DATE CABIN of a leg, after a space
abbrev pub seat_text : Cabin → ℕ → List ℕ
seat_text cabin x = codes " " ++ flight_name x ++ codes " 01/03/08 " ++ cabin_text cabin

-- RESERVATION TYPE PRICE COUNT and the legs; a reservation's name is R and its number from 1
unfoldable pub itinerary_line : Line → List ℕ
itinerary_line line =
    codes "R" ++ decimal (line.request.number + 1) ++ codes " A " ++ decimal line.request.price ++ codes " " ++ decimal line.count
    ++ flat_map (seat_text line.request.cabin) (trip_legs line.request.trip) ++ codes "\n"

-- itineraries.csv: a line for each reservation that has seats
unfoldable pub itineraries_text : ℕ → ℕ → List ℕ
itineraries_text seed size = flat_map itinerary_line (lines_of seed size (requests_of size))

-- The rows of the file of itineraries.
use Rattle.std.specs.Prelude.{ℕ, ◌%◌, List, [], ◌∷◌, length, Result, Ok, Err, nat_lt, ◌==◌, ◌&&◌, if◌then◌else◌}
use Rattle.file_rows.specs.declared.cause.Cause.{Cause}
use Rattle.file_rows.specs.declared.cause.Cause.TheVariants as causes
use Rattle.desk_text.specs.Fields.{name_of, number_of, price_of, date_of, inbound_of, cabin_of}
use Rattle.desk_text.specs.Rows.{◌>>=◌, RowOf, next_field}
use Rattle.file_rows.specs.declared.passengers.LegRow.{LegRow}
use Rattle.file_rows.specs.declared.passengers.ItineraryRow.{ItineraryRow}

-- FLIGHT DATE CABIN
unfoldable pub leg_of : List ℕ → List ℕ → List ℕ → Result LegRow Cause
leg_of flight date class = do
  name ← name_of flight
  day ← date_of date
  cabin ← cabin_of class
  Ok (record { flight = name; day = day; cabin = cabin })

-- this one before the others, where these are read
abbrev pub before_all : LegRow → Result (List LegRow) Cause → Result (List LegRow) Cause
before_all leg others = others >>= λ legs. Ok (leg ∷ legs)

-- the legs of the fields, three to a leg
unfoldable pub legs_of : List (List ℕ) → Result (List LegRow) Cause
legs_of [] = Ok []
legs_of (flight ∷ date ∷ class ∷ others) = do
  leg ← leg_of flight date class
  before_all leg (legs_of others)
legs_of _ = Err causes.Fields

-- this row, where the fields of its legs are one or more whole groups of three
abbrev pub in_groups : List (List ℕ) → Result ItineraryRow Cause → Result ItineraryRow Cause
in_groups fields row = if nat_lt 0 (length fields) && (length fields % 3 == 0) then row else Err causes.Fields

-- the row of its first four fields and of those of its legs
unfoldable pub fields_row : ℕ → List ℕ → List ℕ → List ℕ → List ℕ → List (List ℕ) → Result ItineraryRow Cause
fields_row line reservation kind paid passengers groups = do
  name ← name_of reservation
  inbound ← inbound_of kind
  price ← price_of paid
  count ← number_of 1 999999999 passengers
  legs ← legs_of groups
  Ok (record { line = line; name = name; inbound = inbound; price = price; count = count; legs = legs })

-- RESERVATION TYPE PRICE COUNT, and one or more groups
unfoldable pub itinerary_row : RowOf ItineraryRow
itinerary_row line fields = do
  first ← next_field fields
  second ← next_field first.1
  third ← next_field second.1
  fourth ← next_field third.1
  in_groups fourth.1 (fields_row line first.0 second.0 third.0 fourth.0 fourth.1)

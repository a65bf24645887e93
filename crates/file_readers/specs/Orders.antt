-- The orders of the files of disruptions: what is ordered of a flight, an aircraft or an airport; and the moment of a batch.
use Rattle.std.specs.Prelude.{ℕ, List, Option, Some, None, Result, Ok, bytes_eq, codes, if◌then◌else◌}
use Rattle.file_rows.specs.declared.cause.Cause.{Cause}
use Rattle.file_rows.specs.declared.disruptions.AltRow.{AltRow}
use Rattle.file_rows.specs.declared.disruptions.AltRow.TheVariants as alt
use Rattle.desk_text.specs.Fields.{name_of, number_of, date_of}
use Rattle.desk_text.specs.Moments.{moment_of}
use Rattle.desk_text.specs.Rows.{◌>>=◌, RowOf, next_field}

-- a delay in minutes, or none where the field is '-1': the leg is not flown
unfoldable pub delay_of : List ℕ → Result (Option ℕ) Cause
delay_of field = if bytes_eq field (codes "-1") then Ok None else (number_of 0 2880 field >>= λ minutes. Ok (Some minutes))

-- what is ordered of a flight
unfoldable pub flight_order : ℕ → List ℕ → List ℕ → List ℕ → Result AltRow Cause
flight_order line flight date delay = do
  flight ← name_of flight
  day ← date_of date
  delay ← delay_of delay
  Ok (alt.Flight line flight day delay)

-- what is ordered of an aircraft: the first moment, and the last
unfoldable pub aircraft_order : ℕ → List ℕ → List ℕ × List ℕ → List ℕ × List ℕ → Result AltRow Cause
aircraft_order line aircraft first last = do
  aircraft ← name_of aircraft
  from ← moment_of first.0 first.1
  to ← moment_of last.0 last.1
  Ok (alt.Aircraft line aircraft from to)

-- what is ordered of an airport: the first moment and the last, and its departures and arrivals per hour
unfoldable pub airport_order : ℕ → List ℕ → List ℕ × List ℕ → List ℕ × List ℕ → List ℕ × List ℕ → Result AltRow Cause
airport_order line airport first last caps = do
  airport ← name_of airport
  from ← moment_of first.0 first.1
  to ← moment_of last.0 last.1
  deps ← number_of 0 100000 caps.0
  arrs ← number_of 0 100000 caps.1
  Ok (alt.Field line airport from to deps arrs)

-- FLIGHT DATE DELAY
unfoldable pub flight_row : RowOf AltRow
flight_row line fields = do
  first ← next_field fields
  second ← next_field first.1
  third ← next_field second.1
  flight_order line first.0 second.0 third.0

-- AIRCRAFT DATE TIME DATE TIME
unfoldable pub aircraft_row : RowOf AltRow
aircraft_row line fields = do
  first ← next_field fields
  second ← next_field first.1
  third ← next_field second.1
  fourth ← next_field third.1
  fifth ← next_field fourth.1
  aircraft_order line first.0 (second.0, third.0) (fourth.0, fifth.0)

-- AIRPORT DATE TIME DATE TIME DEPARTURES ARRIVALS
unfoldable pub airport_row : RowOf AltRow
airport_row line fields = do
  first ← next_field fields
  second ← next_field first.1
  third ← next_field second.1
  fourth ← next_field third.1
  fifth ← next_field fourth.1
  sixth ← next_field fifth.1
  seventh ← next_field sixth.1
  airport_order line first.0 (second.0, third.0) (fourth.0, fifth.0) (sixth.0, seventh.0)

-- DATE TIME: the moment at which a batch becomes known
unfoldable pub moment_row : RowOf AltRow
moment_row line fields = do
  first ← next_field fields
  second ← next_field first.1
  at ← moment_of first.0 second.0
  Ok (alt.At line at)

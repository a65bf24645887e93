-- What a line of the files that give a plan says: names become numbers.
use Rattle.std.specs.Prelude.{ℕ, Bool, true, List, [], ◌∷◌, length, nat_le, nat_lt, Option, Some, None, ok_or, Result, Ok, Err, if◌then◌else◌}
use Rattle.desk_units.specs.declared.numbers.Cabin.{Cabin}
use Rattle.desk_units.specs.declared.numbers.Leg.{Leg}
use Rattle.desk_units.specs.declared.numbers.Res.{Res}
use Rattle.file_rows.specs.declared.cause.Cause.{Cause}
use Rattle.file_rows.specs.declared.cause.Cause.TheVariants as cause
use Rattle.file_rows.specs.declared.passengers.LegRow.{LegRow}
use Rattle.file_rows.specs.Limits.{most_legs, end_of_time}
use Rattle.desk_text.specs.Rows.{◌>>=◌}
use Rattle.desk_data.specs.declared.row.Group.{Group}
use Rattle.desk_data.specs.declared.row.Row.{Row}
use Rattle.desk_data.specs.declared.row.Row.TheVariants as row
use Rattle.desk_data.specs.Situation.{Situation}
use Rattle.file_joins.specs.Names.{leg_named, plane_named, res_named}
use Rattle.file_readers.specs.declared.sol_row.PlannedFlight.{PlannedFlight}
use Rattle.file_readers.specs.declared.sol_row.PlannedLeg.{PlannedLeg}
use Rattle.file_readers.specs.declared.sol_row.PlannedGroup.{PlannedGroup}

-- the leg of a flight and a day; one that nothing has is unknown
abbrev pub leg_of : Situation → List ℕ → ℕ → Result Leg Cause
leg_of I flight day = ok_or (leg_named I flight day) cause.Unknown

-- how a leg is flown; an aircraft that nothing has is unknown
unfoldable pub row_of : Situation → Option PlannedFlight → Result Row Cause
row_of I None = Ok row.Cancelled
row_of I (Some flown) = do
  plane ← ok_or (plane_named I flown.aircraft) cause.Unknown
  Ok (row.Flown plane flown.dep)

-- whether a departure is before minute 52,500,000
abbrev pub is_in_time : Row → Bool
is_in_time (row.Flown plane dep) = nat_lt dep.0 end_of_time
is_in_time row.Cancelled = true

-- a leg and its row; a departure that is too late is past its limit
unfoldable pub stated_leg : Situation → PlannedLeg → Result (Leg × Row) Cause
stated_leg I line = do
  leg ← leg_of I line.flight line.day
  planned ← row_of I line.flown
  if is_in_time planned then Ok (leg, planned) else Err cause.Limit

-- a leg of a path with its cabin
unfoldable pub seat_of : Situation → LegRow → Result (Leg × Cabin) Cause
seat_of I seat = do
  leg ← leg_of I seat.flight seat.day
  Ok (leg, seat.cabin)

-- a path
unfoldable pub path_of : Situation → List LegRow → Result (List (Leg × Cabin)) Cause
path_of I [] = Ok []
path_of I (seat ∷ seats) = do
  first ← seat_of I seat
  others ← path_of I seats
  Ok (first ∷ others)

-- passengers on a path; one of more than 8 legs is past its limit
unfoldable pub group_of : ℕ → List (Leg × Cabin) → Result Group Cause
group_of count path = if nat_le (length path) most_legs then Ok (record { count = count; path = path }) else Err cause.Limit

-- a reservation and a group of its passengers
unfoldable pub stated_group : Situation → PlannedGroup → Result (Res × Group) Cause
stated_group I line = do
  res ← ok_or (res_named I line.name line.inbound) cause.Unknown
  path ← path_of I line.legs
  group ← group_of line.count path
  Ok (res, group)

-- The crews that the rows of crew.csv give, for a day.
use Rattle.std.specs.Prelude.{ℕ, Bool, true, not, ◌&&◌, ◌||◌, ◌==◌, nat_le, nat_lt, if◌then◌else◌, List, [], ◌∷◌, ◌++◌, length, ok_or, Result, Ok, Err, bytes_eq}
use Rattle.std.specs.List.{list_any}
use Rattle.file_rows.specs.declared.cause.Cause.{Cause}
use Rattle.file_rows.specs.declared.cause.Cause.TheVariants as cause
use Rattle.desk_text.specs.Rows.{◌>>=◌, at_line}
use Rattle.desk_units.specs.declared.numbers.Airport.{Airport}
use Rattle.desk_units.specs.declared.numbers.Leg.{Leg}
use Rattle.desk_data.specs.Situation.{Situation}
use Rattle.file_joins.specs.Names.{leg_named, airport_named}
use Rattle.file_readers.specs.declared.crew_row.CrewLeg.{CrewLeg}
use Rattle.file_readers.specs.declared.crew_row.CrewRow.{CrewRow}
use Rattle.crew_rules.specs.declared.crew.CrewInfo.{CrewInfo}

-- the airport of a name, and the leg of a flight and a day; what the day does not have is unknown
abbrev pub home_of : Situation → List ℕ → Result Airport Cause
home_of I name = ok_or (airport_named I name) cause.Unknown

abbrev pub leg_of : Situation → CrewLeg → Result Leg Cause
leg_of I leg = ok_or (leg_named I leg.flight leg.day) cause.Unknown

-- the legs of a row
unfoldable pub legs_of : Situation → List CrewLeg → Result (List Leg) Cause
legs_of I [] = Ok []
legs_of I (row ∷ rows) = do
  leg ← leg_of I row
  legs ← legs_of I rows
  Ok (leg ∷ legs)

-- whether no leg stands twice
abbrev pub are_apart : List Leg → Bool
are_apart [] = true
are_apart (leg ∷ legs) = not (list_any (λ other. other.0 == leg.0) legs) && are_apart legs

-- the crew of a row by the names in it, where no leg stands twice
unfoldable pub crew_named : Situation → CrewRow → Result CrewInfo Cause
crew_named I row = do
  home ← home_of I row.home
  legs ← legs_of I row.legs
  if are_apart legs then Ok (record { name = row.name; home = home; duty = row.duty; rest = row.rest; legs = legs }) else Err cause.Twice

-- whether one of these rows has a name
abbrev pub has_name : List ℕ → List CrewRow → Bool
has_name name rows = list_any (λ row. bytes_eq row.name name) rows

-- the crew of a row after these: there are at most 5,000 rows, a row has at most 64 legs, and no row before has its name
unfoldable pub crew_stated : Situation → List CrewRow → CrewRow → Result CrewInfo Cause
crew_stated I before row =
    if nat_le 5000 (length before) || nat_lt 64 (length row.legs) then Err cause.Limit
    else if has_name row.name before then Err cause.Twice
    else crew_named I row

-- the crews of rows that come after others, or the line of the first row that is refused, with the cause
unfoldable pub crews_after : Situation → List CrewRow → List CrewRow → Result (List CrewInfo) (ℕ × Cause)
crews_after I before [] = Ok []
crews_after I before (row ∷ rows) = do
  crew ← at_line row.line (crew_stated I before row)
  crews ← crews_after I (before ++ row ∷ []) rows
  Ok (crew ∷ crews)

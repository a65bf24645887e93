-- The rows of the file of crews.
use Rattle.std.specs.Prelude.{ℕ, Bool, ◌%◌, List, [], ◌∷◌, length, nat_lt, ◌==◌, ◌&&◌, Result, Ok, Err, if◌then◌else◌}
use Rattle.file_rows.specs.declared.cause.Cause.{Cause}
use Rattle.file_rows.specs.declared.cause.Cause.TheVariants as causes
use Rattle.desk_text.specs.Fields.{name_of, number_of, date_of}
use Rattle.desk_text.specs.Rows.{◌>>=◌, RowOf, next_field}
use Rattle.file_readers.specs.declared.crew_row.CrewLeg.{CrewLeg}
use Rattle.file_readers.specs.declared.crew_row.CrewRow.{CrewRow}

-- FLIGHT DATE
unfoldable pub leg_of : List ℕ → List ℕ → Result CrewLeg Cause
leg_of flight date = do
  name ← name_of flight
  day ← date_of date
  Ok (record { flight = name; day = day })

-- this one before the others, where these are read
abbrev pub before_all : CrewLeg → Result (List CrewLeg) Cause → Result (List CrewLeg) Cause
before_all leg others = others >>= λ legs. Ok (leg ∷ legs)

-- the legs of the fields, two to a leg
unfoldable pub legs_of : List (List ℕ) → Result (List CrewLeg) Cause
legs_of [] = Ok []
legs_of (flight ∷ date ∷ others) = do
  leg ← leg_of flight date
  before_all leg (legs_of others)
legs_of _ = Err causes.Fields

-- one or more legs, each of them whole
abbrev pub are_groups : List (List ℕ) → Bool
are_groups fields = nat_lt 0 (length fields) && (length fields % 2 == 0)

-- the row of its first four fields and of those of its legs: a duty and a rest are 1 to 10,000 minutes
unfoldable pub fields_row : ℕ → List ℕ → List ℕ → List ℕ → List ℕ → List (List ℕ) → Result CrewRow Cause
fields_row line crew home duty rest groups = do
  name ← name_of crew
  base ← name_of home
  most ← number_of 1 10000 duty
  least ← number_of 1 10000 rest
  legs ← legs_of groups
  Ok (record { line = line; name = name; home = base; duty = most; rest = least; legs = legs })

-- CREW HOME DUTY REST, and one or more groups
unfoldable pub crew_row : RowOf CrewRow
crew_row line fields = do
  first ← next_field fields
  second ← next_field first.1
  third ← next_field second.1
  fourth ← next_field third.1
  if are_groups fourth.1 then fields_row line first.0 second.0 third.0 fourth.0 fourth.1 else Err causes.Fields

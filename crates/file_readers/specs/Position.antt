-- The rows of the file of positions.
use Rattle.std.specs.Prelude.{ℕ, Bool, ◌%◌, List, [], ◌∷◌, length, nat_lt, ◌==◌, ◌&&◌, Result, Ok, Err, if◌then◌else◌}
use Rattle.file_rows.specs.declared.cause.Cause.{Cause}
use Rattle.file_rows.specs.declared.cause.Cause.TheVariants as causes
use Rattle.desk_text.specs.Fields.{name_of, number_of, seats_of}
use Rattle.desk_text.specs.Rows.{◌>>=◌, RowOf, next_field}
use Rattle.file_rows.specs.declared.fleet.PositionGroup.{PositionGroup}
use Rattle.file_rows.specs.declared.fleet.PositionRow.{PositionRow}

-- MODEL SEATS COUNT
unfoldable pub group_of : List ℕ → List ℕ → List ℕ → Result PositionGroup Cause
group_of model seats count = do
  name ← name_of model
  cabins ← seats_of seats
  aircraft ← number_of 0 1000 count
  Ok (record { model = name; seats = cabins; count = aircraft })

-- this one before the others, where these are read
abbrev pub before_all : PositionGroup → Result (List PositionGroup) Cause → Result (List PositionGroup) Cause
before_all group others = others >>= λ groups. Ok (group ∷ groups)

-- the groups of the fields, three to a group
unfoldable pub groups_of : List (List ℕ) → Result (List PositionGroup) Cause
groups_of [] = Ok []
groups_of (model ∷ seats ∷ count ∷ others) = do
  group ← group_of model seats count
  before_all group (groups_of others)
groups_of _ = Err causes.Fields

-- one or more groups, each of them whole
abbrev pub are_groups : List (List ℕ) → Bool
are_groups fields = nat_lt 0 (length fields) && (length fields % 3 == 0)

-- AIRPORT, and what comes after it
abbrev pub position_of : ℕ → List ℕ → List (List ℕ) → Result PositionRow Cause
position_of line airport others = do
  name ← name_of airport
  groups ← groups_of others
  Ok (record { line = line; airport = name; groups = groups })

-- AIRPORT, and one or more groups
unfoldable pub position_row : RowOf PositionRow
position_row line fields = do
  airport ← next_field fields
  if are_groups airport.1 then position_of line airport.0 airport.1 else Err causes.Fields

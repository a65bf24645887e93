-- What the lines of sol_rotations.csv say of each leg.
use Rattle.std.specs.Prelude.{ℕ, List, map, Option, Some, None, is_some, unwrap_or, Result, Ok, Err, if◌then◌else◌}
use Rattle.std.specs.List.{list_all}
use Rattle.std.specs.Option.{option_or}
use Rattle.desk_units.specs.declared.numbers.Leg.{Leg}
use Rattle.file_rows.specs.declared.cause.Cause.{Cause}
use Rattle.file_rows.specs.declared.cause.Cause.TheVariants.{Missing}
use Rattle.desk_data.specs.declared.row.Row.{Row}
use Rattle.desk_data.specs.declared.row.Row.TheVariants.{Cancelled}
use Rattle.desk_data.specs.Situation.{Situation, legs_of}
use Rattle.file_readers.specs.declared.sol_row.PlannedLeg.{PlannedLeg}
use Rattle.file_joins.specs.Stated.{stated_leg}
use Rattle.file_joins.specs.Statement.{Statement, entries_stated}

-- a line gives its leg a row, where no line before it has
abbrev pub statement_of_legs : Situation → Statement PlannedLeg (Leg × Row) (Option Row)
statement_of_legs I = record {
  number = λ line. line.line;
  stated = stated_leg I;
  about = λ stated. stated.0.0;
  none = None;
  again = λ stated row. is_some row;
  add = λ row stated. option_or row (Some stated.1);
}

-- the rows that the lines give, by leg, or the first line that is refused
abbrev pub rows_stated : Situation → List PlannedLeg → Result (List (Option Row)) (ℕ × Cause)
rows_stated I lines = entries_stated (statement_of_legs I) (legs_of I) lines

-- the rows, where each leg has one
unfoldable pub all_rows : List (Option Row) → Result (List Row) (ℕ × Cause)
all_rows stated = if list_all is_some stated then Ok (map (λ row. unwrap_or row Cancelled) stated) else Err (0, Missing)

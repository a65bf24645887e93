-- What the lines of sol_itineraries.csv say of each reservation.
use Rattle.std.specs.Prelude.{ℕ, Bool, ◌==◌, List, [], map, sum_by, is_some, Result, Ok, Err, if◌then◌else◌}
use Rattle.std.specs.List.{list_all, zip}
use Rattle.std.specs.Map.{lookup}
use Rattle.std.specs.BTreeMap.{insert_entry, is_at}
use Rattle.desk_units.specs.declared.numbers.Cabin.{Cabin}
use Rattle.desk_units.specs.declared.numbers.Leg.{Leg}
use Rattle.desk_units.specs.declared.numbers.Res.{Res}
use Rattle.file_rows.specs.declared.cause.Cause.{Cause}
use Rattle.file_rows.specs.declared.cause.Cause.TheVariants.{Count}
use Rattle.desk_data.specs.declared.row.Group.{Group}
use Rattle.desk_data.specs.declared.info.ResInfo.{ResInfo}
use Rattle.desk_data.specs.PlanRows.{path_cmp}
use Rattle.desk_data.specs.Situation.{Situation, reservations_of}
use Rattle.file_readers.specs.declared.sol_row.PlannedGroup.{PlannedGroup}
use Rattle.file_joins.specs.Stated.{stated_group}
use Rattle.file_joins.specs.Statement.{Statement, entries_stated}

-- passengers by their paths, in the order of paths
abbrev pub Passengers : Type 0
Passengers = List (List (Leg × Cabin) × ℕ)

-- whether there are passengers on a path
abbrev pub has_path : List (Leg × Cabin) → Passengers → Bool
has_path path passengers = is_some (lookup (is_at (path_cmp path)) passengers)

-- a line puts passengers of its reservation on a path, at its place in their order, where no line before it has
abbrev pub statement_of_groups : Situation → Statement PlannedGroup (Res × Group) Passengers
statement_of_groups I = record {
  number = λ line. line.line;
  stated = stated_group I;
  about = λ stated. stated.0.0;
  none = [];
  again = λ stated passengers. has_path stated.1.path passengers;
  add = λ passengers stated. insert_entry path_cmp passengers stated.1.path stated.1.count;
}

-- the passengers of each reservation, or the first line that is refused
abbrev pub passengers_stated : Situation → List PlannedGroup → Result (List Passengers) (ℕ × Cause)
passengers_stated I lines = entries_stated (statement_of_groups I) (reservations_of I) lines

-- the groups of passengers, in the order of their paths
abbrev pub groups_in : Passengers → List Group
groups_in passengers = map (λ on. record { count = on.1; path = on.0 }) passengers

-- whether the groups of a reservation have all its passengers
abbrev pub is_whole : ResInfo × List Group → Bool
is_whole pair = sum_by (λ group. group.count) pair.1 == pair.0.count

-- the groups, where those of each reservation have all its passengers
unfoldable pub all_groups : Situation → List (List Group) → Result (List (List Group)) (ℕ × Cause)
all_groups I groups = if list_all is_whole (zip I.parts.res groups) then Ok groups else Err (0, Count)

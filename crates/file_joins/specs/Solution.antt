-- The plan that two files give.
use Rattle.std.specs.Prelude.{◌≡◌, ℕ, List, map, Result, Ok, Err}
use Rattle.file_rows.specs.declared.cause.Cause.{Cause}
use Rattle.desk_text.specs.declared.fault.ReadFault.{ReadFault}
use Rattle.desk_text.specs.declared.fault.ReadFault.TheVariants as read_fault
use Rattle.desk_text.specs.Rows.{◌>>=◌}
use Rattle.desk_folder.specs.declared.files.File.{File}
use Rattle.desk_folder.specs.declared.files.File.TheVariants.{SolRotations, SolItineraries}
use Rattle.desk_data.specs.PlanRows.{PlanRows}
use Rattle.desk_data.specs.Situation.{Situation}
use Rattle.desk_build.specs.declared.fault.BuildFault.{BuildFault}
use Rattle.desk_build.specs.declared.fault.BuildFault.TheVariants.{Refused, Memory}
use Rattle.file_readers.specs.declared.sol_row.PlannedLeg.{PlannedLeg}
use Rattle.file_readers.specs.declared.sol_row.PlannedGroup.{PlannedGroup}
use Rattle.file_readers.specs.Legs.{rotation_rows}
use Rattle.file_readers.specs.Groups.{itinerary_rows}
use Rattle.file_joins.specs.Legs.{rows_stated, all_rows}
use Rattle.file_joins.specs.Groups.{passengers_stated, groups_in, all_groups}

-- a refusal in this file
abbrev pub in_file : {Given : Type 0} → File → Result Given (ℕ × Cause) → Result Given (File × ℕ × Cause)
in_file file (Ok given) = Ok given
in_file file (Err refusal) = Err (file, refusal.0, refusal.1)

-- the plan of the rows: the lines of both files are tried, and then whether there are lines for all legs and all passengers
unfoldable pub plan_stated : Situation → List PlannedLeg → List PlannedGroup → Result PlanRows (File × ℕ × Cause)
plan_stated I legs groups = do
  stated ← in_file SolRotations (rows_stated I legs)
  parties ← in_file SolItineraries (passengers_stated I groups)
  each_leg ← in_file SolRotations (all_rows stated)
  each_party ← in_file SolItineraries (all_groups I (map groups_in parties))
  Ok (record { rows = each_leg; groups = each_party })

-- the plan of the two texts, or the first refusal: first of the grammars, and then of what the rows say
unfoldable pub solution_of : Situation → List ℕ → List ℕ → Result PlanRows (File × ℕ × Cause)
solution_of I rotations itineraries = do
  legs ← in_file SolRotations (rotation_rows rotations)
  groups ← in_file SolItineraries (itinerary_rows itineraries)
  plan_stated I legs groups

-- a reader gives this value, or refuses that line of that file; out of memory may come at any time
abbrev pub SolutionGives : {Answer Value : Type 0} → (Answer → Value) → Result Answer BuildFault → Result Value (File × ℕ × Cause) → Type 0
SolutionGives value (Ok answer) stated = stated ≡ Ok (value answer)
SolutionGives value (Err (Refused file line cause)) stated = stated ≡ Err (file, line, cause)
SolutionGives value (Err Memory) stated = Unit {0}

-- the fault of a file
abbrev pub fault_in : File → ReadFault → BuildFault
fault_in file (read_fault.Refused line cause) = Refused file line cause
fault_in file read_fault.Memory = Memory

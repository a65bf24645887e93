-- The plan of two files, step by step.
use Rattle.std.proofs.Common.{◌≡◌, ℕ, List, map, Option, Result, Ok, Err, refl, sym, ap, subst, ◌∙◌}
use Rattle.file_rows.specs.declared.cause.Cause.{Cause}
use Rattle.desk_text.specs.declared.fault.ReadFault.{ReadFault}
use Rattle.desk_text.specs.declared.fault.ReadFault.TheVariants as read_fault
use Rattle.desk_text.specs.Rows.{◌>>=◌, Gives}
use Rattle.desk_folder.specs.declared.files.File.{File}
use Rattle.desk_folder.specs.declared.files.File.TheVariants.{SolRotations, SolItineraries}
use Rattle.desk_data.specs.declared.row.Row.{Row}
use Rattle.desk_data.specs.declared.row.Group.{Group}
use Rattle.desk_data.specs.PlanRows.{PlanRows}
use Rattle.desk_data.specs.Situation.{Situation}
use Rattle.file_readers.specs.declared.sol_row.PlannedLeg.{PlannedLeg}
use Rattle.file_readers.specs.declared.sol_row.PlannedGroup.{PlannedGroup}
use Rattle.file_readers.specs.Legs.{rotation_rows}
use Rattle.file_readers.specs.Groups.{itinerary_rows}
use Rattle.file_joins.specs.Legs.{rows_stated, all_rows}
use Rattle.file_joins.specs.Groups.{Passengers, passengers_stated, groups_in, all_groups}
use Rattle.desk_build.specs.declared.fault.BuildFault.{BuildFault}
use Rattle.file_joins.specs.Both.{both}
use Rattle.file_joins.specs.Solution.{in_file, plan_stated, solution_of, SolutionGives, fault_in}

-- what a file says, or why it is refused
abbrev Stated : Type 0 → Type 0
Stated X = Result X (ℕ × Cause)

abbrev Joined : Type 0 → Type 0
Joined X = Result X (File × ℕ × Cause)

module _ {X Y : Type 0} (file : File) (f : X → Joined Y) where
  -- a step that gives something
  step_ok : (r : Stated X) (x : X) → r ≡ Ok x → (in_file file r >>= f) ≡ f x
  step_ok r x is = ap (λ (r : Stated X). in_file file r >>= f) is

  -- a step that is refused
  step_err : {A B : Type 0} (value : A → Y) (shown : B → X) (fault : ReadFault) (r : Stated X) → Gives {Answer = B} shown (Err fault) r → SolutionGives {Answer = A} value (Err (fault_in file fault)) (in_file file r >>= f)
  step_err value shown (read_fault.Refused line cause) r is = ap (λ (r : Stated X). in_file file r >>= f) is
  step_err value shown read_fault.Memory r is = tt

module _ (I : Situation) where
  -- the chain after each step
  abbrev with_groups : List Row → List (List Group) → Joined PlanRows
  with_groups rows of = Ok (record { rows = rows; groups = of })

  abbrev with_rows : List Passengers → List Row → Joined PlanRows
  with_rows parties rows = in_file SolItineraries (all_groups I (map groups_in parties)) >>= with_groups rows

  abbrev with_parties : List (Option Row) → List Passengers → Joined PlanRows
  with_parties stated parties = in_file SolRotations (all_rows stated) >>= with_rows parties

  abbrev with_legs : List PlannedGroup → List (Option Row) → Joined PlanRows
  with_legs groups stated = in_file SolItineraries (passengers_stated I groups) >>= with_parties stated

  module _ (legs : List PlannedLeg) (groups : List PlannedGroup) where
    plan_stated-is : plan_stated I legs groups ≡ (in_file SolRotations (rows_stated I legs) >>= with_legs groups)
    unfolding plan_stated
    plan_stated-is = refl

    after_legs : (stated : List (Option Row)) → rows_stated I legs ≡ Ok stated → plan_stated I legs groups ≡ with_legs groups stated
    after_legs stated is = plan_stated-is ∙ step_ok SolRotations (with_legs groups) (rows_stated I legs) stated is

    after_parties : (stated : List (Option Row)) (parties : List Passengers) → rows_stated I legs ≡ Ok stated → passengers_stated I groups ≡ Ok parties → plan_stated I legs groups ≡ with_parties stated parties
    after_parties stated parties is are = after_legs stated is ∙ step_ok SolItineraries (with_parties stated) (passengers_stated I groups) parties are

    after_rows : (stated : List (Option Row)) (parties : List Passengers) (rows : List Row) → rows_stated I legs ≡ Ok stated → passengers_stated I groups ≡ Ok parties → all_rows stated ≡ Ok rows → plan_stated I legs groups ≡ with_rows parties rows
    after_rows stated parties rows is are all = after_parties stated parties is are ∙ step_ok SolRotations (with_rows parties) (all_rows stated) rows all

    -- all steps give something
    plan_is : (stated : List (Option Row)) (parties : List Passengers) (rows : List Row) (of : List (List Group)) → rows_stated I legs ≡ Ok stated → passengers_stated I groups ≡ Ok parties → all_rows stated ≡ Ok rows → all_groups I (map groups_in parties) ≡ Ok of
        → plan_stated I legs groups ≡ Ok (record { rows = rows; groups = of })
    plan_is stated parties rows of is are all whole = after_rows stated parties rows is are all ∙ step_ok SolItineraries (with_groups rows) (all_groups I (map groups_in parties)) of whole

    module _ {A B : Type 0} (value : A → PlanRows) (fault : ReadFault) where
      -- a line of the first file is refused
      pub legs_refused : (shown : B → List (Option Row)) → Gives shown (Err fault) (rows_stated I legs) → SolutionGives value (Err (fault_in SolRotations fault)) (plan_stated I legs groups)
      legs_refused shown is =
          subst (SolutionGives value (Err (fault_in SolRotations fault))) (sym plan_stated-is) (step_err SolRotations (with_legs groups) value shown fault (rows_stated I legs) is)

      -- a line of the second file is refused
      pub groups_refused : (shown : B → List Passengers) (stated : List (Option Row)) → rows_stated I legs ≡ Ok stated → Gives shown (Err fault) (passengers_stated I groups) → SolutionGives value (Err (fault_in SolItineraries fault)) (plan_stated I legs groups)
      groups_refused shown stated is refused =
          subst (SolutionGives value (Err (fault_in SolItineraries fault))) (sym (after_legs stated is)) (step_err SolItineraries (with_parties stated) value shown fault (passengers_stated I groups) refused)

    module _ {A B : Type 0} (shown : A → List Row) (seen : B → List (List Group)) (stated : List (Option Row)) (parties : List Passengers) (is : rows_stated I legs ≡ Ok stated) (are : passengers_stated I groups ≡ Ok parties) where
      -- the plan of what both files give
      abbrev pub plan_seen : A × B → PlanRows
      plan_seen pair = record { rows = shown pair.0; groups = seen pair.1 }

      -- each leg has a line or not, and each reservation all its passengers or not
      pub both_stated : (rows : Result A ReadFault) (of : Result B ReadFault) (result : Result (A × B) BuildFault) → Gives shown rows (all_rows stated) → Gives seen of (all_groups I (map groups_in parties)) → result ≡ both rows of
          → SolutionGives plan_seen result (plan_stated I legs groups)
      both_stated rows of result each whole same = subst (λ (r : Result (A × B) BuildFault). SolutionGives plan_seen r (plan_stated I legs groups)) (sym same) (by rows of each whole)
        where
          by : (rows : Result A ReadFault) (of : Result B ReadFault) → Gives shown rows (all_rows stated) → Gives seen of (all_groups I (map groups_in parties)) → SolutionGives plan_seen (both rows of) (plan_stated I legs groups)
          by (Err fault) of each whole =
              subst (SolutionGives plan_seen (Err (fault_in SolRotations fault))) (sym (after_parties stated parties is are)) (step_err SolRotations (with_rows parties) plan_seen shown fault (all_rows stated) each)
          by (Ok rows) (Err fault) each whole =
              subst (SolutionGives plan_seen (Err (fault_in SolItineraries fault))) (sym (after_rows stated parties (shown rows) is are each))
              (step_err SolItineraries (with_groups (shown rows)) plan_seen seen fault (all_groups I (map groups_in parties)) whole)
          by (Ok rows) (Ok of) each whole = plan_is stated parties (shown rows) (seen of) is are each whole

module _ (I : Situation) (rotations itineraries : List ℕ) where
  -- the plan after the rows of the first file
  abbrev with_rotations : List PlannedLeg → Joined PlanRows
  with_rotations legs = in_file SolItineraries (itinerary_rows itineraries) >>= plan_stated I legs

  solution_of-is : solution_of I rotations itineraries ≡ (in_file SolRotations (rotation_rows rotations) >>= with_rotations)
  unfolding solution_of
  solution_of-is = refl

  -- both files have rows
  pub solution_is : (legs : List PlannedLeg) (groups : List PlannedGroup) → rotation_rows rotations ≡ Ok legs → itinerary_rows itineraries ≡ Ok groups → solution_of I rotations itineraries ≡ plan_stated I legs groups
  solution_is legs groups is are =
      solution_of-is ∙ step_ok SolRotations with_rotations (rotation_rows rotations) legs is ∙ step_ok SolItineraries (plan_stated I legs) (itinerary_rows itineraries) groups are

  module _ {A B : Type 0} (value : A → PlanRows) (fault : ReadFault) where
    -- the first file has none
    pub rotations_refused : (shown : B → List PlannedLeg) → Gives shown (Err fault) (rotation_rows rotations) → SolutionGives value (Err (fault_in SolRotations fault)) (solution_of I rotations itineraries)
    rotations_refused shown refused =
        subst (SolutionGives value (Err (fault_in SolRotations fault))) (sym solution_of-is) (step_err SolRotations with_rotations value shown fault (rotation_rows rotations) refused)

    -- the second file has none
    pub itineraries_refused : (shown : B → List PlannedGroup) (legs : List PlannedLeg) → rotation_rows rotations ≡ Ok legs → Gives shown (Err fault) (itinerary_rows itineraries)
        → SolutionGives value (Err (fault_in SolItineraries fault)) (solution_of I rotations itineraries)
    itineraries_refused shown legs is refused =
        subst (SolutionGives value (Err (fault_in SolItineraries fault))) (sym (solution_of-is ∙ step_ok SolRotations with_rotations (rotation_rows rotations) legs is))
        (step_err SolItineraries (plan_stated I legs) value shown fault (itinerary_rows itineraries) refused)

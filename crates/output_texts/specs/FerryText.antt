-- What is written of legs that are added to a plan.
use Rattle.std.specs.Prelude.{ℕ, List, ◌++◌, codes, decimal}
use Rattle.std.specs.List.{flat_map}
use Rattle.desk_units.specs.declared.numbers.Airport.{Airport}
use Rattle.desk_data.specs.Situation.{Situation, plane_at, airport_at}
use Rattle.desk_data.specs.PlanRows.{PlanRows}
use Rattle.desk_text.specs.Texts.{moment_text}
use Rattle.added_legs.specs.declared.added.Added.{Added}
use Rattle.added_legs.specs.Merged.{plane_end}

-- an added leg that leaves an airport: AIRCRAFT ORIGIN DEST DATE TIME, with its departure
unfoldable pub leg_text : Situation → Airport → Added → List ℕ
leg_text I origin a =
    (plane_at I a.plane.0).name ++ codes " " ++ (airport_at I origin.0).name ++ codes " " ++ (airport_at I a.dest.0).name ++ codes " " ++ moment_text a.dep.0

-- its line in sol_added.csv
abbrev pub line_from : Situation → Airport → Added → List ℕ
line_from I origin a = leg_text I origin a ++ codes "\n"

-- its line in the report, with what the plan costs with it and with those before it
abbrev pub reported_from : Situation → Airport → Added → ℕ → List ℕ
reported_from I origin a cost = codes "added " ++ leg_text I origin a ++ codes " " ++ decimal cost ++ codes "\n"

-- both of a leg that is added to a plan: it leaves where its aircraft ends there
abbrev pub added_line : Situation → PlanRows → Added → List ℕ
added_line I P a = line_from I (plane_end I P a.plane.0) a

abbrev pub reported_line : Situation → PlanRows → Added → ℕ → List ℕ
reported_line I P a cost = reported_from I (plane_end I P a.plane.0) a cost

-- the file: a line for each added leg, in their order
unfoldable pub added_text : Situation → PlanRows → List Added → List ℕ
added_text I P A = flat_map (added_line I P) A

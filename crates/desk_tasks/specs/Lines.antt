-- The lines of a leg that is added, told with what the plan costs then.
use Rattle.std.specs.Prelude.{ℕ, List}
use Rattle.desk_data.specs.Situation.{Situation}
use Rattle.desk_data.specs.PlanRows.{PlanRows}
use Rattle.ferry_legs.specs.declared.ferried.Ferried.{Ferried}
use Rattle.output_texts.specs.FerryText.{added_line, reported_line}

-- in the file
abbrev pub line_of : Situation → PlanRows → Ferried → List ℕ
line_of I P f = added_line I P f.leg

-- in the report
abbrev pub report_line_of : Situation → PlanRows → Ferried → List ℕ
report_line_of I P f = reported_line I P f.leg f.cost.0

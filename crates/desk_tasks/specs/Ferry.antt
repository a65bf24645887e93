-- Adding legs to a plan: which are added, and what that comes to.
use Rattle.std.specs.Prelude.{ℕ, zero, suc, List, [], ◌∷◌, ◌++◌, Option, Some, None, unwrap_or, codes, decimal}
use Rattle.std.specs.Option.{option_map}
use Rattle.desk_data.specs.Situation.{Situation}
use Rattle.desk_data.specs.PlanRows.{PlanRows}
use Rattle.desk_data.specs.declared.broken.Broken.{Broken}
use Rattle.desk_folder.specs.declared.files.File.TheVariants as file
use Rattle.desk_rules.specs.Least.{least}
use Rattle.desk_rules.specs.Cost.{cost}
use Rattle.added_legs.specs.declared.added.Added.{Added}
use Rattle.added_legs.specs.Added.{cost_added}
use Rattle.added_legs.specs.Ferried.{with_added, next_added}
use Rattle.output_texts.specs.FerryText.{added_text, reported_line}
use Rattle.desk_tasks.specs.Outcome.{line, Outcome}
use Rattle.desk_tasks.specs.Judge.{Judged, verdict_report, rule_status}

-- ---- which legs are added

-- these legs, and after them at most so many more: as long as there is a next one it is added
unfoldable pub added_on : ℕ → Situation → PlanRows → List Added → List Added
added_on zero I P A = A
added_on (suc more) I P A = unwrap_or (option_map (λ a. added_on more I P (with_added A a)) (next_added I P A)) A

-- the legs that are added to a plan. Each lowers the cost, so there are no more of them than the plan costs grains
unfoldable pub ferried : Situation → PlanRows → List Added
ferried I P = added_on (cost_added I P []) I P []

-- ---- what is written

-- the lines of legs that are added after others, in order: each with what the plan costs with it and with those before it
unfoldable pub ferried_lines : Situation → PlanRows → List Added → List Added → List ℕ
ferried_lines I P before [] = []
ferried_lines I P before (a ∷ added) = reported_line I P a (cost_added I P (with_added before a)) ++ ferried_lines I P (with_added before a) added

-- the report of a plan that breaks no rule: a line for each leg, that no further one is added, and what the plan costs with all of them
unfoldable pub ferried_report : Situation → PlanRows → List Added → List ℕ
ferried_report I P A = ferried_lines I P [] A ++ line (codes "ended quiet") ++ line (codes "cost " ++ decimal (cost_added I P A))

-- the file and the report, by what the plan breaks: where it breaks a rule nothing is added, and the report is that of a check
abbrev pub ferry_file : Situation → PlanRows → Option Broken → List ℕ
ferry_file I P None = added_text I P (ferried I P)
ferry_file I P (Some item) = []

abbrev pub ferry_report : Situation → PlanRows → Option Broken → List ℕ
ferry_report I P None = ferried_report I P (ferried I P)
ferry_report I P (Some item) = verdict_report I (Some item) (cost I P)

-- what adding legs to a plan comes to: 7 where the plan breaks a rule, and else 0
unfoldable pub ferry_outcome : Situation → PlanRows → Outcome
ferry_outcome I P = record {
  status = rule_status (least I P);
  texts = record {
    files = (file.SolAdded, ferry_file I P (least I P)) ∷ [];
    report = ferry_report I P (least I P);
  };
}

-- of a day and a plan on it
abbrev pub ferried_plan : Judged → Outcome
ferried_plan j = ferry_outcome j.day j.plan

-- Judging a plan: what it breaks, and what it costs.
use Rattle.std.specs.Prelude.{ℕ, List, [], ◌∷◌, ◌++◌, Option, Some, None, codes, decimal}
use Rattle.desk_data.specs.Progress.{with_batch}
use Rattle.desk_data.specs.Situation.{Situation}
use Rattle.desk_data.specs.PlanRows.{PlanRows}
use Rattle.desk_data.specs.declared.broken.Broken.{Broken}
use Rattle.day_orders.specs.declared.orders.Batch.{Batch}
use Rattle.desk_rules.specs.Least.{least}
use Rattle.desk_rules.specs.Cost.{cost}
use Rattle.output_texts.specs.Items.{broken_text}
use Rattle.desk_tasks.specs.declared.ending.Ending.{Ending}
use Rattle.desk_tasks.specs.declared.ending.Ending.TheVariants as ending
use Rattle.desk_tasks.specs.Outcome.{line, Outcome}

-- a day with its batches, and a plan on it
pub record Judged : Type 0 where
  pub day : Situation
  pub plan : PlanRows

-- a day with these batches, one after another, each by the same plan, which decides what has left by its moment
abbrev pub with_batches : Situation → PlanRows → List Batch → Situation
with_batches I P [] = I
with_batches I P (B ∷ batches) = with_batches (with_batch I P B) P batches

-- the first item that is broken, or that none is
abbrev pub verdict_text : Situation → Option Broken → List ℕ
verdict_text I None = codes "feasible"
verdict_text I (Some item) = codes "broken " ++ broken_text I item

-- the report: the first item that is broken, or that none is, and the cost
unfoldable pub verdict_report : Situation → Option Broken → ℕ → List ℕ
verdict_report I broken cost = line (verdict_text I broken) ++ line (codes "cost " ++ decimal cost)

-- 0 where no rule is broken, 7 where one is
abbrev pub rule_status : Option Broken → ℕ
rule_status None = 0
rule_status (Some item) = 7

-- the verdict on a plan; nothing is written to a file
unfoldable pub verdict : Situation → PlanRows → Outcome
verdict I P = record {
  status = rule_status (least I P);
  texts = record {
    files = [];
    report = verdict_report I (least I P) (cost I P);
  };
}

-- what a day and a plan come to that are judged
abbrev pub judged : Judged → Outcome
judged j = verdict j.day j.plan

-- how a run ends that reported it
abbrev pub verdict_end : Option Broken → Ending
verdict_end None = ending.Done
verdict_end (Some item) = ending.BrokenRule

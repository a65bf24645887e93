-- A check's input asks for a plan to be judged, and how a run of it ends.
use Rattle.std.proofs.Common.{◌≡◌, false}
use Rattle.std.specs.Prelude.{Result, Ok, Err}
use Rattle.desk_text.specs.Rows.{◌>>=◌}
use Rattle.desk_words.specs.declared.asked.Command.TheVariants as command_is
use Rattle.desk_tasks.specs.declared.refusal.Refusal.{Refusal}
use Rattle.desk_tasks.specs.declared.ending.Ending.{Ending}
use Rattle.desk_tasks.specs.declared.ending.Ending.TheVariants as ending
use Rattle.desk_tasks.specs.Inputs.{Inputs}
use Rattle.desk_tasks.specs.Judge.{Judged}
use Rattle.desk_tasks.specs.Tasks.{Task, judge}
use Rattle.desk_tasks.specs.Story.{Rows, rows_of, judged_of_rows, task_of_rows, task_of}
use Rattle.day_page.specs.Runs.{IsVerdict, Shows}

-- ---- the task of a check

-- a plan that was read makes the task
made : (r : Result Judged Refusal) (t : Task) → (r >>= (λ j. Ok (judge j))) ≡ Ok t → (j : Judged) × (t ≡ judge j)
made (Ok j) t e = (j, cc)
made (Err why) t e = absurd cc

rows_judge : (rows : Rows) (t : Task) → task_of_rows (command_is.Check false) rows ≡ Ok t → (j : Judged) × (t ≡ judge j)
unfolding task_of_rows
rows_judge rows t e = made (judged_of_rows rows) t e

read_judge : (r : Result Rows Refusal) (t : Task) → (r >>= task_of_rows (command_is.Check false)) ≡ Ok t → (j : Judged) × (t ≡ judge j)
read_judge (Ok rows) t e = rows_judge rows t e
read_judge (Err why) t e = absurd cc

-- a check is a judging, whatever its input
pub check_judges : (x : Inputs) (t : Task) → task_of (command_is.Check false) x ≡ Ok t → (j : Judged) × (t ≡ judge j)
unfolding task_of
check_judges x t e = read_judge (rows_of (command_is.Check false) x) t e

-- ---- endings

-- a plan that was judged
pub verdict_shows : (x : Inputs) (j : Judged) (how : Ending) → task_of (command_is.Check false) x ≡ Ok (judge j) → IsVerdict j.day j.plan how → Shows x how
verdict_shows x j ending.Done e v = (j, e, v)
verdict_shows x j ending.NoPlan e v = absurd v
verdict_shows x j ending.BrokenRule e v = (j, e, v)
verdict_shows x j ending.Usage e v = absurd v
verdict_shows x j (ending.Refused r) e v = absurd v
verdict_shows x j ending.PlaceFault e v = absurd v
verdict_shows x j (ending.ReadFault f) e v = absurd v
verdict_shows x j (ending.WriteFault f) e v = absurd v
verdict_shows x j ending.ReportFault e v = (j, e, v)
verdict_shows x j ending.Memory e v = tt
verdict_shows x j (ending.OnDisk end) e v = absurd v

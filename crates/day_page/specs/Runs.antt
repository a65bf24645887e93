-- What making a page does, by how it ends.
use Rattle.std.specs.Prelude.{◌≡◌, ◌≢◌, ℕ, false, List, None, Ok, Err}
use Rattle.std.specs.Io.KnownBytes.{Appends}
use Rattle.desk_folder.specs.Outside.{SinkSide}
use Rattle.desk_folder.specs.Calls.{Rose}
use Rattle.desk_data.specs.Situation.{Situation}
use Rattle.desk_data.specs.PlanRows.{PlanRows}
use Rattle.desk_rules.specs.Least.{least}
use Rattle.desk_words.specs.declared.asked.Command.TheVariants as command_is
use Rattle.desk_tasks.specs.Inputs.{Inputs}
use Rattle.desk_tasks.specs.Reading.{StandsFirst}
use Rattle.desk_tasks.specs.declared.ending.Ending.{Ending}
use Rattle.desk_tasks.specs.declared.ending.Ending.TheVariants as ending
use Rattle.desk_tasks.specs.Judge.{Judged}
use Rattle.desk_tasks.specs.Tasks.{judge}
use Rattle.desk_tasks.specs.Story.{rows_of, task_of}

-- the ending of a page by what its plan breaks: Done where it breaks nothing, and BrokenRule where it breaks a rule; the page could not be
-- written, or memory ran out
abbrev pub IsVerdict : Situation → PlanRows → Ending → Type 0
IsVerdict I P ending.Done = least I P ≡ None
IsVerdict I P ending.BrokenRule = least I P ≢ None
IsVerdict I P ending.ReportFault = Unit {0}
IsVerdict I P ending.Memory = Unit {0}
IsVerdict I P other = ⊥

-- the day and the plan that the inputs of a check give, and how the page of it ended; or the first refusal; where a file could not be read, no
-- grammar refuses one before it
abbrev pub Shows : Inputs → Ending → Type 0
Shows x (ending.Refused r) = task_of (command_is.Check false) x ≡ Err r
Shows x (ending.ReadFault f) = StandsFirst f (rows_of (command_is.Check false) x)
Shows x ending.Memory = Unit {0}
Shows x other = (j : Judged) × (task_of (command_is.Check false) x ≡ Ok (judge j)) × IsVerdict j.day j.plan other

-- what the page's sink has got: a page, a beginning of one where it could not be written, and nothing where the input sets no task
abbrev pub PutsPage : SinkSide → SinkSide → Ending → Type 0
PutsPage before now ending.Done = (page : List ℕ) × Appends before.written now.written page
PutsPage before now ending.BrokenRule = (page : List ℕ) × Appends before.written now.written page
PutsPage before now ending.ReportFault = Rose before.faults now.faults
PutsPage before now (ending.Refused r) = now ≡ before
PutsPage before now (ending.ReadFault f) = now ≡ before
PutsPage before now other = Unit {0}

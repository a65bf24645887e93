-- The crews of a day: what is reported of them beside a plan, and along a history.
use Rattle.std.specs.Prelude.{ℕ, List, [], ◌∷◌, ◌++◌, Option, Some, None, codes, decimal, if◌then◌else◌}
use Rattle.desk_data.specs.Situation.{Situation}
use Rattle.desk_data.specs.PlanRows.{PlanRows}
use Rattle.desk_data.specs.declared.broken.Broken.{Broken}
use Rattle.desk_rules.specs.Least.{least}
use Rattle.desk_rules.specs.Cost.{cost}
use Rattle.desk_model.specs.declared.answer.Entry.{Entry}
use Rattle.desk_model.specs.States.{State, opening}
use Rattle.desk_model.specs.Histories.{state, changes, is_change}
use Rattle.crew_rules.specs.declared.crew.CrewInfo.{CrewInfo}
use Rattle.crew_rules.specs.declared.crew.CrewBroken.{CrewBroken}
use Rattle.crew_rules.specs.Crews as crews
use Rattle.output_texts.specs.CrewText.{crew_text}
use Rattle.desk_tasks.specs.declared.ending.Ending.{Ending}
use Rattle.desk_tasks.specs.declared.ending.Ending.TheVariants as ending
use Rattle.desk_tasks.specs.Outcome.{line, Outcome}
use Rattle.desk_tasks.specs.Play.{Story, Remarks, remarks_with, history, history_outcome}
use Rattle.desk_tasks.specs.Judge.{Judged, verdict_report}

-- the first item of the crews that a plan breaks
abbrev pub crew_least : Situation → List CrewInfo → PlanRows → Option CrewBroken
crew_least I cs P = crews.crew_least I.parts cs P.rows

-- ---- beside a plan

-- a day with its batches, a plan on it, and the crews of the day
pub record JudgedCrews : Type 0 where
  pub judged : Judged
  pub crews : List CrewInfo

-- the report of a verdict, and after it a line for the crews
unfoldable pub crewed_report : Situation → Option Broken → ℕ → List CrewInfo → Option CrewBroken → List ℕ
crewed_report I broken cost cs item = verdict_report I broken cost ++ line (codes "crew " ++ crew_text cs item)

-- 0 where neither a rule nor a rule of the crews is broken, 7 where one is
abbrev pub crewed_status : Option Broken → Option CrewBroken → ℕ
crewed_status None None = 0
crewed_status None (Some item) = 7
crewed_status (Some rule) item = 7

-- the verdict on a plan and its crews; nothing is written to a file
unfoldable pub crewed_verdict : Situation → PlanRows → List CrewInfo → Outcome
crewed_verdict I P cs = record {
  status = crewed_status (least I P) (crew_least I cs P);
  texts = record {
    files = [];
    report = crewed_report I (least I P) (cost I P) cs (crew_least I cs P);
  };
}

-- what a day, a plan and crews come to that are judged
abbrev pub judged_crews : JudgedCrews → Outcome
judged_crews j = crewed_verdict j.judged.day j.judged.plan j.crews

-- how a run ends that reported it
abbrev pub crewed_end : Option Broken → Option CrewBroken → Ending
crewed_end None None = ending.Done
crewed_end None (Some item) = ending.BrokenRule
crewed_end (Some rule) item = ending.BrokenRule

-- ---- along a history

-- a story, and the crews of its day
pub record CrewedStory : Type 0 where
  pub story : Story
  pub crews : List CrewInfo

abbrev pub crewed_on : Story → List CrewInfo → CrewedStory
crewed_on story crews = record { story = story; crews = crews }

-- the line after so many changes: the first item of the crews that is broken, or that they break none
abbrev pub crew_line : List CrewInfo → ℕ → Option CrewBroken → List ℕ
crew_line cs number item = line (codes "crew " ++ decimal number ++ codes " " ++ crew_text cs item)

-- the line of a state that came of so many changes, where it has a plan
abbrev pub plan_line : List CrewInfo → ℕ → State → Option Broken → List ℕ
plan_line cs number S None = crew_line cs number (crew_least S.inst cs S.plan)
plan_line cs number S (Some item) = []

-- the line of the state after a history, whose last entry this is: where the entry is a change
abbrev pub change_line : State → List CrewInfo → List Entry → Entry → List ℕ
change_line S cs h last = if is_change last.event last.answer then plan_line cs (changes h) (state S h) (state S h).broken else []

-- the lines of entries that come after others, in order
unfoldable pub crew_lines : State → List CrewInfo → List Entry → List Entry → List ℕ
crew_lines S cs before [] = []
crew_lines S cs before (entry ∷ entries) = change_line S cs (before ++ entry ∷ []) entry ++ crew_lines S cs (before ++ entry ∷ []) entries

-- no search is reported, and the lines of a whole history stand before the number of its changes
abbrev pub crew_remarks : Situation → List CrewInfo → List Entry → Remarks
crew_remarks I cs h = remarks_with None (crew_lines (opening I) cs [] h)

-- what a story comes to that is played beside its crews: what it comes to that is played, with their lines
abbrev pub played_crews : CrewedStory → Outcome
played_crews s = history_outcome s.story.day (crew_remarks s.story.day s.crews (history s.story)) (history s.story)

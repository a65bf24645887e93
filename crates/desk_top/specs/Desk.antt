-- What is said of a run of the desk, where its inputs mean what the files' grammars and their join say.
use Rattle.std.specs.Prelude.{◌≡◌, ◌⊎◌, ℕ, Bool, true, false, List, Option, Ok}
use Rattle.std.specs.Io.KnownBytes.{Appends}
use Rattle.desk_model.specs.declared.answer.Entry.{Entry}
use Rattle.desk_model.specs.States.{opening}
use Rattle.desk_model.specs.Histories.{state}
use Rattle.desk_rules.specs.Least.{least}
use Rattle.desk_rules.specs.Cost.{cost}
use Rattle.desk_words.specs.declared.asked.Command.{Command}
use Rattle.desk_words.specs.declared.asked.Command.TheVariants as command_is
use Rattle.desk_tasks.specs.declared.ending.Ending.{Ending}
use Rattle.desk_tasks.specs.Commands.{Ask, files_read}
use Rattle.desk_tasks.specs.Inputs.{Inputs, Tells}
use Rattle.desk_tasks.specs.Runs.{World, Meaning, SetsTask, IsUnreported, IsWritten}
use Rattle.desk_tasks.specs.Runs as runs
use Rattle.desk_tasks.specs.Causes as causes
use Rattle.desk_tasks.specs.Promised as promised
use Rattle.desk_tasks.specs.Works.{Meanings, AtSomeWork}
use Rattle.desk_tasks.specs.Play.{Story, search_remarks, report_text, plan_status}
use Rattle.desk_tasks.specs.Recover.{Recovery, search_end}
use Rattle.desk_tasks.specs.Team.{team_on, Work}
use Rattle.desk_tasks.specs.Judge.{Judged, verdict_report, rule_status}
use Rattle.desk_tasks.specs.Crew.{JudgedCrews, CrewedStory, crew_least, crewed_report, crewed_status}
use Rattle.desk_tasks.specs.Generate.{generation}
use Rattle.desk_tasks.specs.Tasks.{Task, play, play_crews, recover, team, judge, judge_crews, ferry, IsWorkOf, outcome_at, IsSoundAt}
use Rattle.desk_tasks.specs.Headline.{TellsHistory, Headline, HasCrewed, Recovers, HasTeamRecovered, HasFerried}
use Rattle.output_texts.specs.Generated.{text_of}
use Rattle.desk_tasks.specs.Story.{Rows, rows_of, usual_moves, task_of}

-- what inputs say to a command: the rows of all its files, or the first refusal by a grammar; and the task, or the first refusal; and
-- what that comes to, where a run has this work
abbrev pub meaning_at : Work → Meaning Rows Task
meaning_at work = record { rows = rows_of; task = task_of; outcome = outcome_at work; IsSound = IsSoundAt work }

-- at each work
abbrev pub meanings : Meanings Rows Task Work
meanings = record { at = meaning_at; IsWorkOf = IsWorkOf }

-- ---- what is said of a run, with that meaning

-- a command that is obeyed with this work
abbrev pub Obeys : Work → Ask → World → World → Ending → Type 0
Obeys work a before now how = runs.Obeys (meaning_at work) a before now how

-- a command that is obeyed with some work, one of the task that its inputs set; unless nothing is written, and no line of a fault is put yet
pub record ObeysSomehow (a : Ask) (before now : World) (how : Ending) : Type 0 where
  pub work : Work
  pub fair : (x : Inputs) → Tells (files_read a.command) before.folder x → (t : Task) → SetsTask (meaning_at work) a.command x t → IsUnreported before now ⊎ IsWorkOf t work
  pub obeys : Obeys work a before now how

-- a run with this work, and a run with some work
abbrev pub RunsWith : Work → Option Ask → World → World → ℕ → Type 0
RunsWith work ask before now code = runs.Runs (meaning_at work) ask before now code

abbrev pub Runs : Option Ask → World → World → ℕ → Type 0
Runs ask before now code = AtSomeWork meanings ask before now (λ M. runs.Runs M ask before now code)

-- a run that was done, with this work
abbrev pub IsDone : Work → Command → World → World → Inputs → ℕ → Type 0
IsDone work c before now x code = causes.IsDone (meaning_at work) c before now x code

-- a run has one work, and with it keeps all that is promised of each command
abbrev pub RunsAsPromised : Option Ask → World → World → ℕ → Type 0
RunsAsPromised ask before now code = promised.RunsAsPromised meanings ask before now code

-- ---- what each command did, once it was done

-- `replay`: the inputs give a story, and there is a history with the headline
pub record IsReplayed (before now : World) (x : Inputs) : Type 0 where
  pub story : Story
  pub sets : task_of (command_is.Replay false) x ≡ Ok (play story)
  pub history : List Entry
  pub headline : Headline before now story history

-- `replay` with crews: the inputs give a story and the crews of its day, and there is a history with all that the headline says, whose report
-- has a line of the crews for each plan that a change left; the status is that of a replay
pub record IsReplayedWithCrews (before now : World) (x : Inputs) (code : ℕ) : Type 0 where
  pub crewed : CrewedStory
  pub sets : task_of (command_is.Replay true) x ≡ Ok (play_crews crewed)
  pub headline : HasCrewed before now crewed
  pub status : code ≡ plan_status (state (opening crewed.story.day) headline.history).broken

-- `recover`: the inputs give a day and its batches, and there is a history with the headline; the status is 1 where it ends with no plan
-- and else 0
pub record IsRecovered (before now : World) (moves : ℕ) (x : Inputs) (code : ℕ) : Type 0 where
  pub recovery : Recovery
  pub sets : task_of (command_is.Recover 0 moves false false) x ≡ Ok (recover recovery)
  pub history : List Entry
  pub status : code ≡ plan_status (state (opening recovery.day) history).broken
  pub recovers : Recovers recovery history
  pub written : TellsHistory before now recovery.day (search_remarks (search_end recovery.day recovery.moves history)) history

-- `recover` with workers: the inputs give a day and its batches, and there is a history with the headline, which a team of so many may make of
-- them, and of which a viewer saw what is reported, where one watches; the status is 1 where it ends with no plan and else 0
pub record IsRecoveredByTeam (before now : World) (workers moves : ℕ) (live watch : Bool) (x : Inputs) (code : ℕ) : Type 0 where
  pub recovery : Recovery
  pub sets : task_of (command_is.Recover workers moves live watch) x ≡ Ok (team (team_on recovery workers live watch))
  pub work : Work
  pub status : code ≡ plan_status (state (opening recovery.day) work.history).broken
  pub headline : HasTeamRecovered before now (team_on recovery workers live watch) work

-- `trial`: the same of the texts of a day that is made up, read as `recover` reads them with its usual options, and reported alone
pub record IsTried (before now : World) (seed size : ℕ) (code : ℕ) : Type 0 where
  pub recovery : Recovery
  pub sets : task_of (command_is.Recover 0 usual_moves false false) (text_of seed size) ≡ Ok (recover recovery)
  pub history : List Entry
  pub status : code ≡ plan_status (state (opening recovery.day) history).broken
  pub recovers : Recovers recovery history
  pub reported : Appends before.sink.written now.sink.written (report_text recovery.day (search_remarks (search_end recovery.day recovery.moves history)) history)

-- `check`: the inputs give a day and a plan; the status is 7 where the plan breaks a rule and else 0, and the report gives the
-- first item that is broken, or that none is, and the cost of the plan on the day with all batches
pub record IsChecked (before now : World) (x : Inputs) (code : ℕ) : Type 0 where
  pub judged : Judged
  pub sets : task_of (command_is.Check false) x ≡ Ok (judge judged)
  pub status : code ≡ rule_status (least judged.day judged.plan)
  pub reported : Appends before.sink.written now.sink.written (verdict_report judged.day (least judged.day judged.plan) (cost judged.day judged.plan))

-- `check` with crews: the inputs give a day, a plan and crews; the status is 7 where the plan breaks a rule or its crews break one and else 0,
-- and the report gives the same as a check without them, and after it the first item that the crews break, or that they break none
pub record IsCheckedWithCrews (before now : World) (x : Inputs) (code : ℕ) : Type 0 where
  pub crewed : JudgedCrews
  pub sets : task_of (command_is.Check true) x ≡ Ok (judge_crews crewed)
  pub status : code ≡ crewed_status (least crewed.judged.day crewed.judged.plan) (crew_least crewed.judged.day crewed.crews crewed.judged.plan)
  pub reported : Appends before.sink.written now.sink.written (crewed_report crewed.judged.day (least crewed.judged.day crewed.judged.plan) (cost crewed.judged.day crewed.judged.plan) crewed.crews (crew_least crewed.judged.day crewed.crews crewed.judged.plan))

-- `ferry`: the inputs give a day and a plan; the status is 7 where the plan breaks a rule and else 0. Where it breaks none, there is the list of
-- legs that are added, each for what the plan costs with it; else the report is that of a check, and sol_added.csv got nothing
pub record IsFerriedPlan (before now : World) (x : Inputs) (code : ℕ) : Type 0 where
  pub judged : Judged
  pub sets : task_of command_is.Ferry x ≡ Ok (ferry judged)
  pub status : code ≡ rule_status (least judged.day judged.plan)
  pub headline : HasFerried before now judged

-- `gen`: the files of the seed and the size are written
pub record IsGenerated (before now : World) (seed size : ℕ) (code : ℕ) : Type 0 where
  pub status : code ≡ 0
  pub written : IsWritten before now (generation seed size).texts

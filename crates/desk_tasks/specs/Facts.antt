-- What holds of the rows that were read, and of the task.
use Rattle.std.specs.Prelude.{◌≡◌, ◌≤◌, All}
use Rattle.build_tables.specs.Facts.{AreFileRows}
use Rattle.file_readers.specs.CrewFacts.{IsCrewRow}
use Rattle.crew_rules.specs.Valid.{AreCrews}
use Rattle.desk_journal.specs.Facts.{AreRows}
use Rattle.desk_model.specs.Histories.{AreAskable}
use Rattle.desk_tasks.specs.declared.rows.InputRows.{InputRows}
use Rattle.desk_data.specs.Situation.{fresh_day}
use Rattle.desk_data.specs.Valid.{IsPlanFor}
use Rattle.output_texts.specs.Generated.{IsSize}
use Rattle.desk_tasks.specs.declared.story.InputStory.{InputStory}
use Rattle.desk_tasks.specs.declared.keep.InputKept.{InputKept}
use Rattle.desk_tasks.specs.declared.recovery.InputRecovery.{InputRecovery}
use Rattle.desk_tasks.specs.declared.plan.InputPlan.{InputPlan}
use Rattle.desk_tasks.specs.declared.crews.InputCrewedStory.{InputCrewedStory}
use Rattle.desk_tasks.specs.declared.crews.InputCrewedPlan.{InputCrewedPlan}
use Rattle.desk_tasks.specs.declared.task.InputTask.{InputTask}
use Rattle.desk_tasks.specs.declared.task.InputTask.TheVariants as input
use Rattle.desk_tasks.specs.Play.{Story}
use Rattle.desk_tasks.specs.Keep.{KeptStory}
use Rattle.desk_tasks.specs.Recover.{Recovery}
use Rattle.desk_tasks.specs.Team.{team_on}
use Rattle.desk_tasks.specs.Judge.{Judged}
use Rattle.desk_tasks.specs.Crew.{CrewedStory, JudgedCrews}
use Rattle.desk_tasks.specs.Tasks.{Task, play, play_crews, recover, team, trial, judge, judge_crews, ferry, generate, IsRecoverable}
use Rattle.desk_tasks.specs.Story.{Rows}

-- the rows, wherever they lie in memory
abbrev pub as_rows : InputRows → Rows
as_rows rows = record { files = rows.files; crews = rows.crews.items; journal = rows.journal.items; plan_rotations = rows.plan_rotations.items; plan_itineraries = rows.plan_itineraries.items }

-- what the readers say of them
pub record AreInputRows (rows : InputRows) : Type 0 where
  pub files : AreFileRows rows.files
  pub crews : All IsCrewRow rows.crews.items
  pub journal : AreRows rows.journal.items

-- the story, wherever it lies in memory
abbrev pub as_story : InputStory → Story
as_story s = record { day = s.inst; events = s.events.items }

-- the day is the one before any batch, and each event can be asked on it
pub record CanBeRun (s : InputStory) : Type 0 where
  pub fresh : s.inst ≡ fresh_day s.inst.parts
  pub asked : AreAskable s.inst s.events.items

-- the story and the batches of its day, wherever they lie in memory
abbrev pub as_kept : InputKept → KeptStory
as_kept k = record { story = as_story k.story; batches = k.batches }

-- the recovery, wherever it lies in memory
abbrev pub as_recovery : InputRecovery → Recovery
as_recovery r = record { day = r.inst; batches = r.batches; moves = r.moves }

-- the day is the one before any batch, and its batches can be taken on it
pub record CanRecover (r : InputRecovery) : Type 0 where
  pub fresh : r.inst ≡ fresh_day r.inst.parts
  pub sound : IsRecoverable (as_recovery r)

-- the plan that is judged, wherever it lies in memory
abbrev pub as_judged : InputPlan → Judged
as_judged p = record { day = p.inst; plan = p.plan }

-- the same with the crews of the day, wherever they lie in memory
abbrev pub as_crewed : InputCrewedStory → CrewedStory
as_crewed s = record { story = as_story s.story; crews = s.crews.items }

abbrev pub as_judged_crews : InputCrewedPlan → JudgedCrews
as_judged_crews p = record { judged = as_judged p.plan; crews = p.crews.items }

-- the story can be played, and the plan judged, and the crews are those of a day
pub record CanBeRunWithCrews (s : InputCrewedStory) : Type 0 where
  pub story : CanBeRun s.story
  pub crews : AreCrews s.story.inst.parts s.crews.items

pub record CanBeJudgedWithCrews (p : InputCrewedPlan) : Type 0 where
  pub plan : IsPlanFor p.plan.inst p.plan.plan
  pub crews : AreCrews p.plan.inst.parts p.crews.items

-- the task, wherever it lies in memory
abbrev pub as_task : InputTask → Task
as_task (input.Play s) = play (as_story s)
as_task (input.PlayCrews s) = play_crews (as_crewed s)
as_task (input.Recover r) = recover (as_recovery r)
as_task (input.Team r workers live watch) = team (team_on (as_recovery r) workers live watch)
as_task (input.Try r) = trial (as_recovery r)
as_task (input.Judge p) = judge (as_judged p)
as_task (input.JudgeCrews p) = judge_crews (as_judged_crews p)
as_task (input.Ferry p) = ferry (as_judged p)
as_task (input.Generate seed size) = generate seed size

-- what reading it makes sure of
abbrev pub CanBeDone : InputTask → Type 0
CanBeDone (input.Play s) = CanBeRun s
CanBeDone (input.PlayCrews s) = CanBeRunWithCrews s
CanBeDone (input.Recover r) = CanRecover r
CanBeDone (input.Team r workers live watch) = CanRecover r × (1 ≤ workers) × (workers ≤ 64)
CanBeDone (input.Try r) = CanRecover r
CanBeDone (input.Judge p) = IsPlanFor p.inst p.plan
CanBeDone (input.JudgeCrews p) = CanBeJudgedWithCrews p
CanBeDone (input.Ferry p) = IsPlanFor p.inst p.plan
CanBeDone (input.Generate seed size) = IsSize size

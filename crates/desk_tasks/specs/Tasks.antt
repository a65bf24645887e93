-- What a command is to do, once its input is accepted, and what that comes to.
use Rattle.std.specs.Prelude.{◌≡◌, ◌≤◌, ℕ, Bool, ◌==◌, if◌then◌else◌, List, [], ◌∷◌, length, All}
use Rattle.desk_folder.specs.declared.files.File.{File}
use Rattle.desk_folder.specs.declared.files.File.TheVariants.{SolAdded}
use Rattle.desk_folder.specs.Files.{day_files}
use Rattle.desk_data.specs.Valid.{IsBatch, IsValid, IsPlanFor}
use Rattle.desk_model.specs.Histories.{AreAskable}
use Rattle.desk_tasks.specs.Commands.{history_files}
use Rattle.desk_tasks.specs.Outcome.{Outcome}
use Rattle.desk_tasks.specs.Play.{Story, played}
use Rattle.desk_tasks.specs.Recover.{Recovery, recovered, tried}
use Rattle.desk_tasks.specs.Team.{TeamRecovery, team_on, Work, nothing, IsTeamWork, recovered_by_team}
use Rattle.desk_tasks.specs.Judge.{Judged, judged}
use Rattle.desk_tasks.specs.Crew.{JudgedCrews, judged_crews, CrewedStory, played_crews}
use Rattle.desk_tasks.specs.Ferry.{ferried_plan}
use Rattle.desk_tasks.specs.Generate.{generation}
use Rattle.crew_rules.specs.Valid.{AreCrews}

-- to play a story, or to play it beside its crews; to recover a day, by the desk alone or by a team, or to try that without a file; to judge a
-- plan, or to judge it with its crews; to add legs to a plan; or to generate a day from a seed and a size
pub data Task : Type 0 where
  play : Story → Task
  play_crews : CrewedStory → Task
  recover : Recovery → Task
  team : TeamRecovery → Task
  trial : Recovery → Task
  judge : Judged → Task
  judge_crews : JudgedCrews → Task
  ferry : Judged → Task
  generate : ℕ → ℕ → Task

-- a recovery by so many workers: where there is none, by the desk alone
abbrev pub recover_by : ℕ → Bool → Bool → Recovery → Task
recover_by workers live watch r = if workers == 0 then recover r else team (team_on r workers live watch)

-- what a task comes to at the work of a run: the status, the texts of files and the report. It depends on the work where a team
-- recovers a day
abbrev pub outcome_at : Work → Task → Outcome
outcome_at work (play s) = played s
outcome_at work (play_crews s) = played_crews s
outcome_at work (recover r) = recovered r
outcome_at work (team t) = recovered_by_team t work
outcome_at work (trial r) = tried r
outcome_at work (judge j) = judged j
outcome_at work (judge_crews j) = judged_crews j
outcome_at work (ferry j) = ferried_plan j
outcome_at work (generate seed size) = generation seed size

-- the works that a run of a task may have: one, where its task comes to the same at each
abbrev pub IsWorkOf : Task → Work → Type 0
IsWorkOf (play s) work = work ≡ nothing
IsWorkOf (play_crews s) work = work ≡ nothing
IsWorkOf (recover r) work = work ≡ nothing
IsWorkOf (team t) work = IsTeamWork t work
IsWorkOf (trial r) work = work ≡ nothing
IsWorkOf (judge j) work = work ≡ nothing
IsWorkOf (judge_crews j) work = work ≡ nothing
IsWorkOf (ferry j) work = work ≡ nothing
IsWorkOf (generate seed size) work = work ≡ nothing

-- what a task comes to that one thread does
abbrev pub outcome : Task → Outcome
outcome t = outcome_at nothing t

-- how many workers it asks for
abbrev pub team_size : Task → ℕ
team_size (team t) = t.workers
team_size other = 0

-- the files that its texts are put into
abbrev pub files_for : Task → List File
files_for (play s) = history_files
files_for (play_crews s) = history_files
files_for (recover r) = history_files
files_for (team t) = history_files
files_for (trial r) = []
files_for (judge j) = []
files_for (judge_crews j) = []
files_for (ferry j) = SolAdded ∷ []
files_for (generate seed size) = day_files

-- the events of a story can be asked on its day
abbrev pub IsRunnable : Story → Type 0
IsRunnable s = AreAskable s.day s.events

-- the batches of a recovery, 1 to 1,001 of them, can be taken on its day
pub record IsRecoverable (r : Recovery) : Type 0 where
  pub valid : IsValid r.day
  pub asked : All (IsBatch r.day.parts) r.batches
  pub some : 1 ≤ length r.batches
  pub few : length r.batches ≤ 1001

-- and those of a recovery by a team, of 1 to 64 workers
pub record IsTeamRecoverable (t : TeamRecovery) : Type 0 where
  pub recovery : IsRecoverable t.recovery
  pub some : 1 ≤ t.workers
  pub few : t.workers ≤ 64

-- what reading a task makes sure of
abbrev pub IsSound : Task → Type 0
IsSound (play s) = IsRunnable s
IsSound (play_crews s) = IsRunnable s.story × AreCrews s.story.day.parts s.crews
IsSound (recover r) = IsRecoverable r
IsSound (team t) = IsTeamRecoverable t
IsSound (trial r) = IsRecoverable r
IsSound (judge j) = IsPlanFor j.day j.plan
IsSound (judge_crews j) = IsPlanFor j.judged.day j.judged.plan × AreCrews j.judged.day.parts j.crews
IsSound (ferry j) = IsPlanFor j.day j.plan
IsSound (generate seed size) = Unit {0}

-- and what doing it does besides, with this work
abbrev pub IsSoundAt : Work → Task → Type 0
IsSoundAt work t = IsSound t × IsWorkOf t work

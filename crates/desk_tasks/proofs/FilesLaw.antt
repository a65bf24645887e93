-- The files that the texts of a task are put into.
use Rattle.std.proofs.Common.{◌≡◌, ℕ, List, refl}
use Rattle.desk_folder.specs.Outputs.{files_of}
use Rattle.desk_data.specs.Situation.{Situation}
use Rattle.desk_model.specs.declared.answer.Entry.{Entry}
use Rattle.output_texts.specs.Generated.{generated}
use Rattle.desk_tasks.specs.Commands.{history_files}
use Rattle.desk_tasks.specs.Play.{Story, Remarks, history_outcome, played}
use Rattle.desk_tasks.specs.Keep.{opened_first, kept}
use Rattle.desk_tasks.specs.Recover.{Recovery, reported_alone, recovered, tried}
use Rattle.desk_tasks.specs.Team.{TeamRecovery, Work, recovered_by_team}
use Rattle.desk_tasks.specs.Judge.{Judged, verdict, judged}
use Rattle.desk_tasks.specs.Crew.{JudgedCrews, crewed_verdict, judged_crews, CrewedStory, played_crews}
use Rattle.desk_tasks.specs.Ferry.{ferry_outcome, ferried_plan}
use Rattle.desk_tasks.specs.Generate.{generation}
use Rattle.desk_tasks.specs.Tasks.{Task, play, play_crews, recover, team, trial, judge, judge_crews, ferry, generate, outcome_at, files_for}

pub history-files : (I : Situation) (remarks : Remarks) (h : List Entry) → files_of (history_outcome I remarks h).texts.files ≡ history_files
unfolding history_outcome
history-files I remarks h = refl

pub played-files : (s : Story) → files_of (played s).texts.files ≡ files_for (play s)
unfolding history_outcome
played-files s = refl

pub kept-files : (held : ℕ) (s : Story) → files_of (kept held s).texts.files ≡ history_files
unfolding opened_first
kept-files held s = played-files s

pub recovered-files : (r : Recovery) → files_of (recovered r).texts.files ≡ files_for (recover r)
unfolding history_outcome
recovered-files r = refl

pub team-files : (t : TeamRecovery) (work : Work) → files_of (recovered_by_team t work).texts.files ≡ files_for (team t)
unfolding history_outcome
team-files t work = refl

pub tried-files : (r : Recovery) → files_of (tried r).texts.files ≡ files_for (trial r)
unfolding reported_alone
tried-files r = refl

pub judged-files : (j : Judged) → files_of (judged j).texts.files ≡ files_for (judge j)
unfolding verdict
judged-files j = refl

pub crewed-files : (s : CrewedStory) → files_of (played_crews s).texts.files ≡ files_for (play_crews s)
unfolding history_outcome
crewed-files s = refl

pub judged_crews-files : (j : JudgedCrews) → files_of (judged_crews j).texts.files ≡ files_for (judge_crews j)
unfolding crewed_verdict
judged_crews-files j = refl

pub ferried-files : (j : Judged) → files_of (ferried_plan j).texts.files ≡ files_for (ferry j)
unfolding ferry_outcome
ferried-files j = refl

pub generated-files : (seed size : ℕ) → files_of (generation seed size).texts.files ≡ files_for (generate seed size)
unfolding generation generated
generated-files seed size = refl

pub files-for : (work : Work) (t : Task) → files_of (outcome_at work t).texts.files ≡ files_for t
files-for work (play s) = played-files s
files-for work (play_crews s) = crewed-files s
files-for work (recover r) = recovered-files r
files-for work (team t) = team-files t work
files-for work (trial r) = tried-files r
files-for work (judge j) = judged-files j
files-for work (judge_crews j) = judged_crews-files j
files-for work (ferry j) = ferried-files j
files-for work (generate seed size) = generated-files seed size

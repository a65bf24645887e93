-- What each command did, once it was done.
use Rattle.std.proofs.lemmas.Bool.Decides.{nat_tests}
use Rattle.std.proofs.Common.{◌≡◌, ◌≢◌, ℕ, zero, suc, ◌≤◌, ◌==◌, Bool, true, false, List, refl, sym, ap, subst, ◌∙◌, arith}
use Rattle.std.specs.Prelude.{Option, Some, None, Result, Ok, Err}
use Rattle.std.specs.Io.KnownBytes.{Appends}
use Rattle.std.specs.Option.{option_map}
use Rattle.desk_data.specs.Situation.{Situation}
use Rattle.desk_model.specs.declared.answer.Entry.{Entry}
use Rattle.desk_model.specs.States.{opening}
use Rattle.desk_model.specs.Histories.{state, run}
use Rattle.desk_rules.specs.Least.{least}
use Rattle.desk_rules.specs.Cost.{cost}
use Rattle.desk_words.specs.declared.asked.Command.{Command}
use Rattle.desk_words.specs.declared.asked.Command.TheVariants as command_is
use Rattle.desk_words.specs.Commands.{Asking}
use Rattle.desk_tasks.specs.declared.refusal.Refusal.{Refusal}
use Rattle.desk_tasks.specs.Commands.{asks, asked_here, files_read, workers_of}
use Rattle.desk_tasks.specs.Inputs.{Inputs, Tells}
use Rattle.desk_tasks.specs.Causes.{IsDoneAt}
use Rattle.desk_tasks.specs.Runs.{World, IsWritten}
use Rattle.desk_tasks.proofs.CausesLaw.{usage-only}
use Rattle.desk_text.specs.Rows.{◌>>=◌}
use Rattle.near_moves.specs.Descent.{recovery}
use Rattle.output_texts.specs.Generated.{text_of}
use Rattle.desk_tasks.specs.Play.{Story, history, Remarks, search_remarks, watch_remarks, history_outcome, plan_status}
use Rattle.desk_tasks.specs.Recover.{Recovery, recovered_history, search_end, recovered, reported_alone, tried}
use Rattle.desk_tasks.specs.Judge.{Judged, verdict, verdict_report, rule_status, judged}
use Rattle.desk_tasks.specs.Crew.{JudgedCrews, CrewedStory, crew_least, crewed_report, crewed_status, crewed_verdict, judged_crews, crew_remarks, played_crews}
use Rattle.desk_tasks.specs.Ferry.{ferry_outcome, ferried_plan}
use Rattle.desk_tasks.specs.Generate.{generation}
use Rattle.desk_tasks.specs.Team.{team_on, Work, nothing, IsTeamWork}
use Rattle.desk_tasks.specs.Tasks.{Task, play, play_crews, recover, team, recover_by, trial, judge, judge_crews, ferry, generate, outcome_at, IsSound, IsWorkOf, IsSoundAt}
use Rattle.desk_tasks.proofs.HeadlineLaw.{has-headline, has-crewed, has-recovered, has-tried, has-team-recovered}
use Rattle.desk_tasks.proofs.FerryLaw.{has-ferried}
use Rattle.desk_tasks.specs.Story.{Rows, rows_of, usual_moves, story_of_rows, crewed_of_rows, recovery_of_rows, trial_of, judged_of_rows, judged_crews_of_rows, task_of_rows, task_of}
use Rattle.desk_top.specs.Desk.{meaning_at, RunsWith, IsDone, RunsAsPromised, IsReplayed, IsReplayedWithCrews, IsRecovered, IsRecoveredByTeam, IsTried, IsChecked, IsCheckedWithCrews, IsFerriedPlan, IsGenerated}

-- ---- what is asked

-- where a run was done of what words ask for, it was done with its work
pub done-by : (o : Option Asking) (asked : Asking) (before now : World) (x : Inputs) (code : ℕ) → (kept : RunsAsPromised (option_map asks o) before now code) → o ≡ Some asked → Tells (files_read asked.0) before.folder x → IsDoneAt code → IsDone kept.work asked.0 before now x code
done-by o asked before now x code kept is tells done = kept.holds.means.done (asks asked) (ap (λ (o : Option Asking). option_map asks o) is) x tells done

pub here-no-usage : (work : Work) (c : Command) (before now : World) (code : ℕ) → RunsWith work (asked_here c) before now code → code ≢ 2
here-no-usage work c before now code run two = let none : asked_here c ≡ None = usage-only (meaning_at work) (asked_here c) before now code run two in absurd cc

-- ---- which task a command is set

abbrev pub Read : Type 0
Read = Result Rows Refusal

played_task : (read : Result Story Refusal) (t : Task) → (read >>= (λ story. let r : Result Task Refusal = Ok (play story) in r)) ≡ Ok t → (s : Story) × (t ≡ play s)
played_task (Ok s) t e = (s, let is : play s ≡ t = cc in sym is)
played_task (Err r) t e = absurd cc

crewed_task_of : (read : Result CrewedStory Refusal) (t : Task) → (read >>= (λ story. let r : Result Task Refusal = Ok (play_crews story) in r)) ≡ Ok t → (s : CrewedStory) × (t ≡ play_crews s)
crewed_task_of (Ok s) t e = (s, let is : play_crews s ≡ t = cc in sym is)
crewed_task_of (Err r) t e = absurd cc

judged_crews_task : (read : Result JudgedCrews Refusal) (t : Task) → (read >>= (λ judged. let r : Result Task Refusal = Ok (judge_crews judged) in r)) ≡ Ok t → (j : JudgedCrews) × (t ≡ judge_crews j)
judged_crews_task (Ok j) t e = (j, let is : judge_crews j ≡ t = cc in sym is)
judged_crews_task (Err r) t e = absurd cc

recover_task : (workers : ℕ) (live watch : Bool) (read : Result Recovery Refusal) (t : Task) → (read >>= (λ recovery. let r : Result Task Refusal = Ok (recover_by workers live watch recovery) in r)) ≡ Ok t → (r : Recovery) × (t ≡ recover_by workers live watch r) × (read ≡ Ok r)
recover_task workers live watch (Ok r) t e = (r, (let is : recover_by workers live watch r ≡ t = cc in sym is), refl)
recover_task workers live watch (Err r) t e = absurd cc

trial_task : (read : Result Recovery Refusal) (t : Task) → (read >>= (λ recovery. let r : Result Task Refusal = Ok (trial recovery) in r)) ≡ Ok t → (r : Recovery) × (t ≡ trial r) × (read ≡ Ok r)
trial_task (Ok r) t e = (r, (let is : trial r ≡ t = cc in sym is), refl)
trial_task (Err r) t e = absurd cc

judged_task : (read : Result Judged Refusal) (t : Task) → (read >>= (λ judged. let r : Result Task Refusal = Ok (judge judged) in r)) ≡ Ok t → (j : Judged) × (t ≡ judge j)
judged_task (Ok j) t e = (j, let is : judge j ≡ t = cc in sym is)
judged_task (Err r) t e = absurd cc

ferry_task_of : (read : Result Judged Refusal) (t : Task) → (read >>= (λ judged. let r : Result Task Refusal = Ok (ferry judged) in r)) ≡ Ok t → (j : Judged) × (t ≡ ferry j)
ferry_task_of (Ok j) t e = (j, let is : ferry j ≡ t = cc in sym is)
ferry_task_of (Err r) t e = absurd cc

replay_rows : (read : Read) (t : Task) → (read >>= task_of_rows (command_is.Replay false)) ≡ Ok t → (s : Story) × (t ≡ play s)
unfolding task_of_rows
replay_rows (Ok rows) t e = played_task (story_of_rows rows) t e
replay_rows (Err r) t e = absurd cc

crewed_rows : (read : Read) (t : Task) → (read >>= task_of_rows (command_is.Replay true)) ≡ Ok t → (s : CrewedStory) × (t ≡ play_crews s)
unfolding task_of_rows
crewed_rows (Ok rows) t e = crewed_task_of (crewed_of_rows rows) t e
crewed_rows (Err r) t e = absurd cc

check_crews_rows : (read : Read) (t : Task) → (read >>= task_of_rows (command_is.Check true)) ≡ Ok t → (j : JudgedCrews) × (t ≡ judge_crews j)
unfolding task_of_rows
check_crews_rows (Ok rows) t e = judged_crews_task (judged_crews_of_rows rows) t e
check_crews_rows (Err r) t e = absurd cc

store_rows : (read : Read) (t : Task) → (read >>= task_of_rows command_is.Store) ≡ Ok t → (s : Story) × (t ≡ play s)
unfolding task_of_rows
store_rows (Ok rows) t e = played_task (story_of_rows rows) t e
store_rows (Err r) t e = absurd cc

recover_rows : (workers moves : ℕ) (live watch : Bool) (read : Read) (t : Task) → (read >>= task_of_rows (command_is.Recover workers moves live watch)) ≡ Ok t → (r : Recovery) × (t ≡ recover_by workers live watch r)
unfolding task_of_rows
recover_rows workers moves live watch (Ok rows) t e = let held = recover_task workers live watch (recovery_of_rows moves rows) t e in (held.0, held.1)
recover_rows workers moves live watch (Err r) t e = absurd cc

trial_rows : (seed size : ℕ) (read : Read) (t : Task) → (read >>= task_of_rows (command_is.Trial seed size)) ≡ Ok t → (r : Recovery) × (t ≡ trial r) × (trial_of seed size ≡ Ok r)
unfolding task_of_rows
trial_rows seed size (Ok rows) t e = trial_task (trial_of seed size) t e
trial_rows seed size (Err r) t e = absurd cc

check_rows : (read : Read) (t : Task) → (read >>= task_of_rows (command_is.Check false)) ≡ Ok t → (j : Judged) × (t ≡ judge j)
unfolding task_of_rows
check_rows (Ok rows) t e = judged_task (judged_of_rows rows) t e
check_rows (Err r) t e = absurd cc

ferry_rows : (read : Read) (t : Task) → (read >>= task_of_rows command_is.Ferry) ≡ Ok t → (j : Judged) × (t ≡ ferry j)
unfolding task_of_rows
ferry_rows (Ok rows) t e = ferry_task_of (judged_of_rows rows) t e
ferry_rows (Err r) t e = absurd cc

gen_rows : (seed size : ℕ) (read : Read) (t : Task) → (read >>= task_of_rows (command_is.Gen seed size)) ≡ Ok t → t ≡ generate seed size
unfolding task_of_rows
gen_rows seed size (Ok rows) t e = let is : generate seed size ≡ t = cc in sym is
gen_rows seed size (Err r) t e = absurd cc

replay_task : (x : Inputs) (t : Task) → task_of (command_is.Replay false) x ≡ Ok t → (s : Story) × (t ≡ play s)
unfolding task_of
replay_task x t e = replay_rows (rows_of (command_is.Replay false) x) t e

crewed_task : (x : Inputs) (t : Task) → task_of (command_is.Replay true) x ≡ Ok t → (s : CrewedStory) × (t ≡ play_crews s)
unfolding task_of
crewed_task x t e = crewed_rows (rows_of (command_is.Replay true) x) t e

check_crews_task : (x : Inputs) (t : Task) → task_of (command_is.Check true) x ≡ Ok t → (j : JudgedCrews) × (t ≡ judge_crews j)
unfolding task_of
check_crews_task x t e = check_crews_rows (rows_of (command_is.Check true) x) t e

store_task : (x : Inputs) (t : Task) → task_of command_is.Store x ≡ Ok t → (s : Story) × (t ≡ play s)
unfolding task_of
store_task x t e = store_rows (rows_of command_is.Store x) t e

recovery_task : (workers moves : ℕ) (live watch : Bool) (x : Inputs) (t : Task) → task_of (command_is.Recover workers moves live watch) x ≡ Ok t → (r : Recovery) × (t ≡ recover_by workers live watch r)
unfolding task_of
recovery_task workers moves live watch x t e = recover_rows workers moves live watch (rows_of (command_is.Recover workers moves live watch) x) t e

-- where there is a worker, by a team
by_team : (workers : ℕ) (live watch : Bool) (r : Recovery) → 1 ≤ workers → recover_by workers live watch r ≡ team (team_on r workers live watch)
by_team zero live watch r some = absurd (omega (arith, some))
by_team (suc n) live watch r some = let e : (suc n == 0) ≡ false = grind (arith, nat_tests) in rw e refl

tried_task : (seed size : ℕ) (x : Inputs) (t : Task) → task_of (command_is.Trial seed size) x ≡ Ok t → (r : Recovery) × (t ≡ trial r) × (trial_of seed size ≡ Ok r)
unfolding task_of
tried_task seed size x t e = trial_rows seed size (rows_of (command_is.Trial seed size) x) t e

-- a trial asks for what `recover` asks for of the texts
asked_rows : (moves : ℕ) (read : Read) (r : Recovery) → (read >>= recovery_of_rows moves) ≡ Ok r → (read >>= task_of_rows (command_is.Recover 0 moves false false)) ≡ Ok (recover r)
unfolding task_of_rows
asked_rows moves (Ok rows) r e = ap (λ (made : Result Recovery Refusal). made >>= (λ recovery. let r : Result Task Refusal = Ok (recover recovery) in r)) e
asked_rows moves (Err why) r e = absurd cc

asked_as_recover : (seed size : ℕ) (r : Recovery) → trial_of seed size ≡ Ok r → task_of (command_is.Recover 0 usual_moves false false) (text_of seed size) ≡ Ok (recover r)
unfolding task_of trial_of
asked_as_recover seed size r e = asked_rows usual_moves (rows_of (command_is.Recover 0 usual_moves false false) (text_of seed size)) r e

check_task : (x : Inputs) (t : Task) → task_of (command_is.Check false) x ≡ Ok t → (j : Judged) × (t ≡ judge j)
unfolding task_of
check_task x t e = check_rows (rows_of (command_is.Check false) x) t e

ferry_task : (x : Inputs) (t : Task) → task_of command_is.Ferry x ≡ Ok t → (j : Judged) × (t ≡ ferry j)
unfolding task_of
ferry_task x t e = ferry_rows (rows_of command_is.Ferry x) t e

gen_task : (seed size : ℕ) (x : Inputs) (t : Task) → task_of (command_is.Gen seed size) x ≡ Ok t → t ≡ generate seed size
unfolding task_of
gen_task seed size x t e = gen_rows seed size (rows_of (command_is.Gen seed size) x) t e

-- a run of a command that asks for no worker has one work
pub plain-work : (c : Command) (x : Inputs) (t : Task) → workers_of c ≡ 0 → task_of c x ≡ Ok t → IsWorkOf t nothing
plain-work (command_is.Replay false) x t none e = let s = replay_task x t e in subst (λ (t : Task). IsWorkOf t nothing) (sym s.1) refl
plain-work (command_is.Replay true) x t none e = let s = crewed_task x t e in subst (λ (t : Task). IsWorkOf t nothing) (sym s.1) refl
plain-work command_is.Store x t none e = let s = store_task x t e in subst (λ (t : Task). IsWorkOf t nothing) (sym s.1) refl
plain-work (command_is.Recover workers moves live watch) x t none e =
    let alone : task_of (command_is.Recover 0 moves live watch) x ≡ Ok t = subst (λ (n : ℕ). task_of (command_is.Recover n moves live watch) x ≡ Ok t) none e in
    let r = recovery_task 0 moves live watch x t alone in
    subst (λ (t : Task). IsWorkOf t nothing) (sym r.1) refl
plain-work (command_is.Check false) x t none e = let j = check_task x t e in subst (λ (t : Task). IsWorkOf t nothing) (sym j.1) refl
plain-work (command_is.Check true) x t none e = let j = check_crews_task x t e in subst (λ (t : Task). IsWorkOf t nothing) (sym j.1) refl
plain-work command_is.Ferry x t none e = let j = ferry_task x t e in subst (λ (t : Task). IsWorkOf t nothing) (sym j.1) refl
plain-work (command_is.Gen seed size) x t none e = subst (λ (t : Task). IsWorkOf t nothing) (sym (gen_task seed size x t e)) refl
plain-work (command_is.Trial seed size) x t none e = let r = tried_task seed size x t e in subst (λ (t : Task). IsWorkOf t nothing) (sym r.1) refl

-- a task that is another one
done_as : (work : Work) (c : Command) (before now : World) (x : Inputs) (code : ℕ) (t : Task) (done : IsDone work c before now x code) → done.task ≡ t → (task_of c x ≡ Ok t) × (code ≡ (outcome_at work t).status) × IsWritten before now (outcome_at work t).texts
done_as work c before now x code t done is = (
  subst (λ (t : Task). task_of c x ≡ Ok t) is done.sets,
  subst (λ (t : Task). code ≡ (outcome_at work t).status) is done.status,
  subst (λ (t : Task). IsWritten before now (outcome_at work t).texts) is done.written,
)

-- ---- replay

pub replayed : (work : Work) (before now : World) (x : Inputs) (code : ℕ) → IsDone work (command_is.Replay false) before now x code → IsReplayed before now x
replayed work before now x code done =
    let story = replay_task x done.task done.sets in
    let parts = done_as work (command_is.Replay false) before now x code (play story.0) done story.1 in
    let held = has-headline before now story.0 (subst IsSound story.1 done.sound.0) parts.2 in
    record { story = story.0; sets = parts.0; history = held.history; headline = held.headline }

-- ---- recover and trial

history_status : (I : Situation) (remarks : Remarks) (h : List Entry) → (history_outcome I remarks h).status ≡ plan_status (state (opening I) h).broken
unfolding history_outcome
history_status I remarks h = refl

recovered_status : (r : Recovery) (h : List Entry) → h ≡ recovery r.moves (opening r.day) r.batches → (recovered r).status ≡ plan_status (state (opening r.day) h).broken
unfolding recovered_history
recovered_status r h is =
    history_status r.day (search_remarks (search_end r.day r.moves (recovery r.moves (opening r.day) r.batches))) (recovery r.moves (opening r.day) r.batches)
    ∙ ap (λ (g : List Entry). plan_status (state (opening r.day) g).broken) (sym is)

tried_status : (r : Recovery) → (tried r).status ≡ (recovered r).status
unfolding reported_alone
tried_status r = refl

pub recovered-day : (work : Work) (before now : World) (moves : ℕ) (x : Inputs) (code : ℕ) → IsDone work (command_is.Recover 0 moves false false) before now x code → IsRecovered before now moves x code
recovered-day work before now moves x code done =
    let r = recovery_task 0 moves false false x done.task done.sets in
    let parts = done_as work (command_is.Recover 0 moves false false) before now x code (recover r.0) done r.1 in
    let held = has-recovered before now r.0 (subst IsSound r.1 done.sound.0) parts.2 in
    record { recovery = r.0; sets = parts.0; history = held.history; status = parts.1 ∙ recovered_status r.0 held.history held.recovers.exact; recovers = held.recovers; written = held.written }

pub recovered-by-team : (work : Work) (before now : World) (workers moves : ℕ) (live watch : Bool) (x : Inputs) (code : ℕ) → 1 ≤ workers → IsDone work (command_is.Recover workers moves live watch) before now x code → IsRecoveredByTeam before now workers moves live watch x code
recovered-by-team work before now workers moves live watch x code some done =
    let r = recovery_task workers moves live watch x done.task done.sets in
    let t = team_on r.0 workers live watch in
    let is : done.task ≡ team t = r.1 ∙ by_team workers live watch r.0 some in
    let parts = done_as work (command_is.Recover workers moves live watch) before now x code (team t) done is in
    let made : IsTeamWork t work = (subst (IsSoundAt work) is done.sound).1 in
    record {
      recovery = r.0;
      sets = parts.0;
      work = work;
      status = parts.1 ∙ history_status r.0.day (watch_remarks r.0.day work.ended work.seen) work.history;
      headline = has-team-recovered before now t work made parts.2;
    }

pub tried-day : (work : Work) (before now : World) (seed size : ℕ) (x : Inputs) (code : ℕ) → IsDone work (command_is.Trial seed size) before now x code → IsTried before now seed size code
tried-day work before now seed size x code done =
    let r = tried_task seed size x done.task done.sets in
    let parts = done_as work (command_is.Trial seed size) before now x code (trial r.0) done r.1 in
    let held = has-tried before now r.0 (subst IsSound r.1 done.sound.0) parts.2 in
    record { recovery = r.0; sets = asked_as_recover seed size r.0 r.2; history = held.history; status = parts.1 ∙ tried_status r.0 ∙ recovered_status r.0 held.history held.recovers.exact; recovers = held.recovers; reported = held.reported }

-- ---- check

verdict_status : (j : Judged) → (judged j).status ≡ rule_status (least j.day j.plan)
unfolding verdict
verdict_status j = refl

verdict_reported : (before now : World) (j : Judged) → IsWritten before now (judged j).texts → Appends before.sink.written now.sink.written (verdict_report j.day (least j.day j.plan) (cost j.day j.plan))
unfolding verdict
verdict_reported before now j h = h

pub checked : (work : Work) (before now : World) (x : Inputs) (code : ℕ) → IsDone work (command_is.Check false) before now x code → IsChecked before now x code
checked work before now x code done =
    let j = check_task x done.task done.sets in
    let parts = done_as work (command_is.Check false) before now x code (judge j.0) done j.1 in
    record { judged = j.0; sets = parts.0; status = parts.1 ∙ verdict_status j.0; reported = verdict_reported before now j.0 parts.2 }

crewed_verdict_status : (j : JudgedCrews) → (judged_crews j).status ≡ crewed_status (least j.judged.day j.judged.plan) (crew_least j.judged.day j.crews j.judged.plan)
unfolding crewed_verdict
crewed_verdict_status j = refl

crewed_verdict_reported : (before now : World) (j : JudgedCrews) → IsWritten before now (judged_crews j).texts
    → Appends before.sink.written now.sink.written (crewed_report j.judged.day (least j.judged.day j.judged.plan) (cost j.judged.day j.judged.plan) j.crews (crew_least j.judged.day j.crews j.judged.plan))
unfolding crewed_verdict
crewed_verdict_reported before now j h = h

pub checked-crews : (work : Work) (before now : World) (x : Inputs) (code : ℕ) → IsDone work (command_is.Check true) before now x code → IsCheckedWithCrews before now x code
checked-crews work before now x code done =
    let j = check_crews_task x done.task done.sets in
    let parts = done_as work (command_is.Check true) before now x code (judge_crews j.0) done j.1 in
    record { crewed = j.0; sets = parts.0; status = parts.1 ∙ crewed_verdict_status j.0; reported = crewed_verdict_reported before now j.0 parts.2 }

-- ---- ferry

ferry_status : (j : Judged) → (ferried_plan j).status ≡ rule_status (least j.day j.plan)
unfolding ferry_outcome
ferry_status j = refl

pub ferried : (work : Work) (before now : World) (x : Inputs) (code : ℕ) → IsDone work command_is.Ferry before now x code → IsFerriedPlan before now x code
ferried work before now x code done =
    let j = ferry_task x done.task done.sets in
    let parts = done_as work command_is.Ferry before now x code (ferry j.0) done j.1 in
    record { judged = j.0; sets = parts.0; status = parts.1 ∙ ferry_status j.0; headline = has-ferried before now j.0 (subst IsSound j.1 done.sound.0) parts.2 }

-- ---- replay with crews

played_status : (s : CrewedStory) (h : List Entry) → h ≡ run (opening s.story.day) s.story.events → (played_crews s).status ≡ plan_status (state (opening s.story.day) h).broken
unfolding history
played_status s h is =
    history_status s.story.day (crew_remarks s.story.day s.crews (run (opening s.story.day) s.story.events)) (run (opening s.story.day) s.story.events)
    ∙ ap (λ (g : List Entry). plan_status (state (opening s.story.day) g).broken) (sym is)

pub replayed-crews : (work : Work) (before now : World) (x : Inputs) (code : ℕ) → IsDone work (command_is.Replay true) before now x code → IsReplayedWithCrews before now x code
replayed-crews work before now x code done =
    let s = crewed_task x done.task done.sets in
    let parts = done_as work (command_is.Replay true) before now x code (play_crews s.0) done s.1 in
    let sound = subst IsSound s.1 done.sound.0 in
    let held = has-crewed before now s.0 sound.0 parts.2 in
    record { crewed = s.0; sets = parts.0; headline = held; status = parts.1 ∙ played_status s.0 held.history held.events }

-- ---- gen

generated_status : (seed size : ℕ) → (generation seed size).status ≡ 0
unfolding generation
generated_status seed size = refl

pub generated : (work : Work) (before now : World) (seed size : ℕ) (x : Inputs) (code : ℕ) → IsDone work (command_is.Gen seed size) before now x code → IsGenerated before now seed size code
generated work before now seed size x code done =
    let parts = done_as work (command_is.Gen seed size) before now x code (generate seed size) done (gen_task seed size x done.task done.sets) in
    record { status = parts.1 ∙ generated_status seed size; written = parts.2 }

-- A command from how its reading ended.
use Rattle.std.proofs.Common.{◌≡◌, ℕ, ◌≤◌, Bool, List, refl, sym, ◌∙◌, subst, inl, inr, arith}
use Rattle.std.specs.Prelude.{Result, Ok, Err}
use Rattle.desk_folder.specs.declared.files.File.{File}
use Rattle.desk_folder.specs.Outside.{Outside, SinkSide}
use Rattle.desk_words.specs.declared.asked.Command.{Command}
use Rattle.desk_tasks.specs.declared.ending.Ending.{Ending}
use Rattle.desk_tasks.specs.Commands.{files_read, files_written}
use Rattle.desk_tasks.specs.Inputs.{Inputs, Tells}
use Rattle.desk_tasks.specs.Reading.{ReadsAmong}
use Rattle.desk_tasks.specs.declared.refusal.Refusal.{Refusal}
use Rattle.desk_tasks.specs.declared.ending.Ending.TheVariants as ending
use Rattle.desk_tasks.specs.Runs.{World, world, Meaning, AreRead}
use Rattle.desk_tasks.specs.Finishing.{Completes}
use Rattle.desk_tasks.proofs.Composed.{here, InOrder, Tries, obeys-done, obeys-refused, obeys-unread, obeys-memory}
use Rattle.desk_tasks.specs.Team.{Work, nothing}
use Rattle.desk_tasks.specs.Tasks.{Task, outcome, outcome_at, IsWorkOf, IsSound, files_for, team_size}
use Rattle.desk_tasks.specs.Done.{IsDoneWith, IsDoneSomehow}
use Rattle.desk_tasks.specs.declared.fault.StoryFault.{StoryFault}
use Rattle.desk_tasks.specs.declared.fault.StoryFault.TheVariants as fault
use Rattle.desk_tasks.specs.declared.task.InputTask.{InputTask}
use Rattle.desk_tasks.specs.declared.recovery.InputRecovery.{InputRecovery}
use Rattle.desk_tasks.specs.declared.task.InputTask.TheVariants as input
use Rattle.desk_tasks.specs.Story.{Rows, rows_of, task_of}
use Rattle.desk_tasks.specs.Faults.{story_end}
use Rattle.desk_tasks.specs.Facts.{as_task, CanBeDone}
use Rattle.desk_tasks.specs.StoryReading.{StopsAtFault, HasReadCause, GivesTask}
use Rattle.desk_top.specs.Desk.{meaning_at, Obeys, ObeysSomehow}

-- the meaning where a run has no work
abbrev plain : Meaning Rows Task
plain = meaning_at nothing

-- with a task that can't be had, the definition's view of one plays no part
abbrev Gives : Command → StoryFault → Inputs → Type 0
Gives c e x = GivesTask as_task (Err e) (rows_of c x) (task_of c x)

tried : (work : Work) (c : Command) (before now : Outside) → ReadsAmong (files_read c) before now → InOrder plain c before now → Tries (meaning_at work) c before now
tried work c before now only order = record { only = only; in_order = order }

by_fault : (c : Command) (before now : Outside) (sink : SinkSide) (e : StoryFault) → Tries plain c before now → StopsAtFault before now e → HasReadCause (files_read c) before now e
    → ((x : Inputs) → Tells (files_read c) before x → Gives c e x) → Obeys nothing (here c) (world before sink) (world now sink) (story_end e)
by_fault c before now sink (fault.Refused r) t stops cause gives = obeys-refused plain c before now sink r t gives
by_fault c before now sink (fault.ReadFault f) t stops cause gives = obeys-unread plain c before now sink f t cause.0 cause.1 stops gives
by_fault c before now sink fault.Memory t stops cause gives = obeys-memory plain c before now sink t

pub obeyed-fault : (c : Command) (before now : Outside) (sink : SinkSide) (e : StoryFault) → ReadsAmong (files_read c) before now → InOrder plain c before now → StopsAtFault before now e → HasReadCause (files_read c) before now e
    → ((x : Inputs) → Tells (files_read c) before x → Gives c e x) → Obeys nothing (here c) (world before sink) (world now sink) (story_end e)
obeyed-fault c before now sink e only order stops cause gives = by_fault c before now sink e (tried nothing c before now only order) stops cause gives

sound_of : (t : InputTask) → CanBeDone t → IsSound (as_task t)
sound_of (input.Play s) h = h.asked
sound_of (input.PlayCrews s) h = (h.story.asked, h.crews)
sound_of (input.Recover r) h = h.sound
sound_of (input.Team r workers live watch) h = record { recovery = h.0.sound; some = h.1; few = h.2 }
sound_of (input.Try r) h = h.sound
sound_of (input.Judge p) h = h
sound_of (input.JudgeCrews p) h = (h.plan, h.crews)
sound_of (input.Ferry p) h = h
sound_of (input.Generate seed size) h = tt

-- a task that asks for no worker comes to the same whatever a run makes
alone_of : (t : InputTask) → CanBeDone t → team_size (as_task t) ≡ 0 → IsWorkOf (as_task t) nothing
alone_of (input.Play s) h none = refl
alone_of (input.PlayCrews s) h none = refl
alone_of (input.Recover r) h none = refl
alone_of (input.Team r workers live watch) h none = absurd (let some = h.1 in omega (arith, some, none))
alone_of (input.Try r) h none = refl
alone_of (input.Judge p) h none = refl
alone_of (input.JudgeCrews p) h none = refl
alone_of (input.Ferry p) h none = refl
alone_of (input.Generate seed size) h none = refl

pub obeyed-task : (c : Command) (before mid now : Outside) (sink sink' : SinkSide) (t : InputTask) (how : Ending) → ReadsAmong (files_read c) before mid → InOrder plain c before mid → AreRead (files_read c) before mid
    → ((x : Inputs) → Tells (files_read c) before x → task_of c x ≡ Ok (as_task t)) → CanBeDone t → team_size (as_task t) ≡ 0 → files_for (as_task t) ≡ files_written c
    → Completes (files_for (as_task t)) (world mid sink) (world now sink') (outcome (as_task t)) how → Obeys nothing (here c) (world before sink) (world now sink') how
obeyed-task c before mid now sink sink' t how only order read given can none files done =
    obeys-done plain c before mid now sink sink' (as_task t) how
    (record { tries = tried nothing c before mid only order; read = read; sets = given; sound = (sound_of t can, alone_of t can none) })
    (subst (λ (fs : List File). Completes fs (world mid sink) (world now sink') (outcome (as_task t)) how) files done)

-- a task that asks for no worker is none of a team, and one that asks for some is
pub no-team : (t : InputTask) (r : InputRecovery) (workers : ℕ) (live watch : Bool) → t ≡ input.Team r workers live watch → CanBeDone t → team_size (as_task t) ≡ 0 → ⊥
no-team t r workers live watch is can none =
    let some = (subst CanBeDone is can).1 in
    let size : workers ≡ 0 = subst (λ (t : InputTask). team_size (as_task t) ≡ 0) is none in
    omega (arith, some, size)

pub a-team : (t other : InputTask) → t ≡ other → team_size (as_task other) ≡ 0 → 1 ≤ team_size (as_task t) → ⊥
a-team t other is none some = (let size : team_size (as_task t) ≡ 0 = subst (λ (x : InputTask). team_size (as_task x) ≡ 0) (sym is) none in omega (arith, some, size))

-- ---- with some work

-- where a task can't be had, nothing is written
pub obeyed-fault-somehow : (c : Command) (before now : Outside) (sink : SinkSide) (e : StoryFault) → ReadsAmong (files_read c) before now → InOrder plain c before now → StopsAtFault before now e → HasReadCause (files_read c) before now e
    → ((x : Inputs) → Tells (files_read c) before x → Gives c e x) → ObeysSomehow (here c) (world before sink) (world now sink) (story_end e)
obeyed-fault-somehow c before now sink e only order stops cause gives = record {
  work = nothing;
  fair = λ x tells t given. inl (record { written = only.written; sink = refl });
  obeys = obeyed-fault c before now sink e only order stops cause gives;
}

same_task : (a b : Task) (r : Result Task Refusal) → r ≡ Ok a → r ≡ Ok b → a ≡ b
same_task a b r is same = (let both : (let x : Result Task Refusal = Ok a in x) ≡ Ok b = sym is ∙ same in cc both)

out_of_memory : (c : Command) (before mid : Outside) (sink : SinkSide) (now : World) (how : Ending) → Tries plain c before mid → how ≡ ending.Memory → now ≡ world mid sink → ObeysSomehow (here c) (world before sink) now how
out_of_memory c before mid sink now how tries memory same =
    subst (λ (w : World). ObeysSomehow (here c) (world before sink) w how) (sym same)
    (subst (λ (e : Ending). ObeysSomehow (here c) (world before sink) (world mid sink) e) (sym memory)
    (record {
      work = nothing;
      fair = λ x tells t given. inl (record { written = tries.only.written; sink = refl });
      obeys = obeys-memory plain c before mid sink tries;
    }))

done_somehow : (c : Command) (before mid now : Outside) (sink sink' : SinkSide) (t : InputTask) (how : Ending) → ReadsAmong (files_read c) before mid → InOrder plain c before mid → AreRead (files_read c) before mid
    → ((x : Inputs) → Tells (files_read c) before x → task_of c x ≡ Ok (as_task t)) → CanBeDone t → files_for (as_task t) ≡ files_written c
    → IsDoneWith (world mid sink) (world now sink') (as_task t) how → ObeysSomehow (here c) (world before sink) (world now sink') how
done_somehow c before mid now sink sink' t how only order read given can files done = record {
  work = done.work;
  fair = λ x tells other set. inr (subst (λ (t : Task). IsWorkOf t done.work) (same_task (as_task t) other (task_of c x) (given x tells) set) done.is);
  obeys = obeys-done (meaning_at done.work) c before mid now sink sink' (as_task t) how
      (record { tries = tried done.work c before mid only order; read = read; sets = given; sound = (sound_of t can, done.is) })
      (subst (λ (fs : List File). Completes fs (world mid sink) (world now sink') (outcome_at done.work (as_task t)) how) files done.completes);
}

pub obeyed-somehow : (c : Command) (before mid now : Outside) (sink sink' : SinkSide) (t : InputTask) (how : Ending) → ReadsAmong (files_read c) before mid → InOrder plain c before mid → AreRead (files_read c) before mid
    → ((x : Inputs) → Tells (files_read c) before x → task_of c x ≡ Ok (as_task t)) → CanBeDone t → files_for (as_task t) ≡ files_written c
    → IsDoneSomehow (world mid sink) (world now sink') (as_task t) how → ObeysSomehow (here c) (world before sink) (world now sink') how
obeyed-somehow c before mid now sink sink' t how only order read given can files (inl memory) = out_of_memory c before mid sink (world now sink') how (tried nothing c before mid only order) memory.0 memory.1
obeyed-somehow c before mid now sink sink' t how only order read given can files (inr done) = done_somehow c before mid now sink sink' t how only order read given can files done

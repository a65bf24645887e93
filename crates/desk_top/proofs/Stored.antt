-- What a run that kept its journal on a disk did, once it was done.
use Rattle.std.proofs.Common.{◌≡◌, inl, inr, ℕ, ◌≤◌, false, List, refl, sym, ap, subst, ◌∙◌, arith}
use Rattle.std.specs.Prelude.{Option, Some, None, Result, Ok}
use Rattle.desk_folder.specs.declared.faults.FolderFault.{FolderFault}
use Rattle.desk_folder.specs.Outside.{Directories}
use Rattle.desk_data.specs.declared.broken.Broken.{Broken}
use Rattle.desk_disk.specs.FileStates.{DiskSide}
use Rattle.desk_model.specs.States.{opening}
use Rattle.desk_model.specs.declared.answer.Entry.{Entry}
use Rattle.desk_model.specs.Histories.{run, state}
use Rattle.desk_words.specs.declared.asked.Command.TheVariants as command_is
use Rattle.desk_tasks.specs.declared.ending.DiskEnd.{DiskEnd}
use Rattle.desk_tasks.specs.declared.ending.DiskEnd.TheVariants as disk_end
use Rattle.desk_tasks.specs.declared.ending.Ending.TheVariants as ending
use Rattle.desk_tasks.specs.declared.refusal.Refusal.{Refusal}
use Rattle.desk_tasks.specs.Commands.{files_read}
use Rattle.desk_tasks.specs.Inputs.{Inputs, Tells}
use Rattle.desk_tasks.specs.Causes.{IsDoneAt, IsDone}
use Rattle.desk_tasks.specs.Outcome.{status_of}
use Rattle.desk_tasks.specs.Runs.{World, status_after}
use Rattle.desk_tasks.proofs.CausesLaw.{status_cases}
use Rattle.desk_tasks.proofs.Composed.{at}
use Rattle.desk_tasks.specs.Play.{Story, history, history_outcome, plan_status}
use Rattle.desk_tasks.specs.Keep.{KeptStory, opened_first, kept}
use Rattle.desk_tasks.specs.Tasks.{play}
use Rattle.desk_tasks.specs.Headline.{HasKept}
use Rattle.desk_tasks.proofs.HeadlineLaw.{has-kept}
use Rattle.desk_tasks.specs.Story.{task_of, kept_of}
use Rattle.desk_tasks.proofs.TaskLaws.{same-story, SameStory}
use Rattle.story_commands.specs.Journal.{WhereShown}
use Rattle.desk_top.specs.Store.{kept_meaning, AreCounted, HoldsSince, IsStored, RunsOnDisk}

status_is : (s : Story) (held : ℕ) (h : List Entry) → h ≡ run (opening s.day) s.events → (kept held s).status ≡ plan_status (state (opening s.day) h).broken
unfolding opened_first history_outcome history
status_is s held h is = ap (λ (g : List Entry). plan_status (state (opening s.day) g).broken) (sym is)

replays : (x : Inputs) (k : KeptStory) (own : Result KeptStory Refusal) → own ≡ Ok k → SameStory own (task_of (command_is.Replay false) x) → task_of (command_is.Replay false) x ≡ Ok (play k.story)
replays x k own is same = (let h : SameStory (Ok k) (task_of (command_is.Replay false) x) = subst (λ (r : Result KeptStory Refusal). SameStory r (task_of (command_is.Replay false) x)) is same in h)

at_most_one : (broken : Option Broken) (code : ℕ) → code ≡ plan_status broken → code ≤ 1
at_most_one None code is = omega (arith, is)
at_most_one (Some item) code is = omega (arith, is)

-- a run that was done wrote
counted : (held : ℕ) (before now : World) (shown shown' : Option DiskSide) (x : Inputs) (code : ℕ) → Tells (files_read command_is.Store) before.folder x → code ≤ 1 → AreCounted held before now shown shown' code → WhereShown shown shown' (HoldsSince held x)
counted held before now shown shown' x code tells le (inl h) = absurd (h.late (inl le))
counted held before now shown shown' x code tells le (inr h) = h x tells

stored_done : (held : ℕ) (before now : World) (shown shown' : Option DiskSide) (x : Inputs) (code : ℕ) → Tells (files_read command_is.Store) before.folder x → AreCounted held before now shown shown' code → IsDone (kept_meaning held) command_is.Store before now x code → IsStored before now shown shown' x code
stored_done held before now shown shown' x code tells counts done =
    let k : KeptStory = done.task in
    let head : HasKept before now k.story held = has-kept before now k.story held done.sound done.written in
    let status = done.status ∙ status_is k.story held head.history head.events in
    record {
      story = k.story;
      sets = replays x k (kept_of x) done.sets (same-story x);
      held = held;
      headline = head;
      counts = counted held before now shown shown' x code tells (at_most_one (state (opening k.story.day) head.history).broken code status) counts;
      status = status;
    }

-- a run that the journal on the disk ended was not done
not_done : (end : DiskEnd) (answer : Result (Unit {0}) FolderFault) (code : ℕ) → code ≡ status_after (ending.OnDisk end) answer → IsDoneAt code → ⊥
not_done end answer code is done = elim (status_cases (ending.OnDisk end) answer code is) [
  | inl e ↦ never end code e done
  | inr e ↦ six code e done
]
  where
    three : (code : ℕ) → code ≡ 3 → IsDoneAt code → ⊥
    three code e (inl le) = omega (arith, e, le)
    three code e (inr is) = omega (arith, e, is)

    six : (code : ℕ) → code ≡ 6 → IsDoneAt code → ⊥
    six code e (inl le) = omega (arith, e, le)
    six code e (inr is) = omega (arith, e, is)

    eight : (code : ℕ) → code ≡ 8 → IsDoneAt code → ⊥
    eight code e (inl le) = omega (arith, e, le)
    eight code e (inr is) = omega (arith, e, is)

    never : (end : DiskEnd) (code : ℕ) → code ≡ status_of (ending.OnDisk end) → IsDoneAt code → ⊥
    never disk_end.Fault code e done = eight code e done
    never disk_end.Damaged code e done = three code e done
    never (disk_end.Other line) code e done = three code e done

pub stored : (dirs : Directories) (before now : World) (faults faults' : ℕ) (shown shown' : Option DiskSide) (x : Inputs) (code : ℕ) → RunsOnDisk (Some (at command_is.Store dirs)) before now faults faults' shown shown' code → Tells (files_read command_is.Store) before.folder x → IsDoneAt code → IsStored before now shown shown' x code
stored dirs before now faults faults' shown shown' x code (inl failed) tells done = absurd (not_done disk_end.Fault failed.answer code failed.status done)
stored dirs before now faults faults' shown shown' x code (inr (inl ended)) tells done = absurd (not_done ended.how ended.answer code ended.status done)
stored dirs before now faults faults' shown shown' x code (inr (inr run)) tells done = stored_done run.held before now shown shown' x code tells run.counts (run.keeps.means.done (at command_is.Store dirs) refl x tells done)

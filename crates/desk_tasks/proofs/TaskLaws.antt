-- From the rows of a command's files to the task that they set.
use Rattle.std.proofs.Common.{◌≡◌, ℕ, false, List, refl, ap, ◌∙◌}
use Rattle.std.specs.Prelude.{Result, Ok, Err, IfErr}
use Rattle.desk_tasks.specs.declared.refusal.Refusal.{Refusal}
use Rattle.desk_words.specs.declared.asked.Command.{Command}
use Rattle.desk_tasks.specs.Inputs.{Inputs}
use Rattle.desk_text.specs.Rows.{◌>>=◌}
use Rattle.desk_tasks.specs.declared.fault.StoryFault.{StoryFault}
use Rattle.desk_tasks.specs.declared.fault.StoryFault.TheVariants as fault
use Rattle.desk_tasks.specs.declared.task.InputTask.{InputTask}
use Rattle.desk_words.specs.declared.asked.Command.TheVariants as command_is
use Rattle.desk_build.specs.declared.joining.Built.{Built}
use Rattle.desk_model.specs.declared.answer.Event.{Event}
use Rattle.desk_tasks.specs.Play.{Story}
use Rattle.desk_tasks.specs.Keep.{KeptStory}
use Rattle.desk_tasks.specs.Tasks.{Task, play}
use Rattle.desk_tasks.specs.declared.keep.InputKept.{InputKept}
use Rattle.desk_tasks.specs.Story.{Rows, rows_of, story_of_rows, task_of_rows, task_of, kept_of_rows, kept_of, or_refused, not_joined, in_file}
use Rattle.desk_folder.specs.declared.files.File.TheVariants as file
use Rattle.desk_build.specs.Join.{built_of}
use Rattle.file_joins.specs.Join.{events_of}
use Rattle.desk_tasks.specs.Facts.{as_rows, as_task, as_kept}
use Rattle.desk_tasks.specs.StoryReading.{GivesRead, GivesTask, NeedsNoFault}

-- where the reading ends by a fault, there is no task, by the same fault
pub unread-task : (c : Command) (x : Inputs) (why : StoryFault) → GivesRead as_rows (Err why) (rows_of c x) → GivesTask as_task (Err why) (rows_of c x) (task_of c x)
unfolding task_of
unread-task c x (fault.Refused r) read = ap (λ (rows : Result Rows Refusal). rows >>= task_of_rows c) read
unread-task c x (fault.ReadFault f) read = read
unread-task c x fault.Memory read = tt

-- the task of the rows that were read is that of the files
pub read-task : (c : Command) (x : Inputs) (rows : Rows) (task : Result InputTask StoryFault) → rows_of c x ≡ Ok rows → GivesRead as_task task (task_of_rows c rows) → IfErr task NeedsNoFault → GivesTask as_task task (rows_of c x) (task_of c x)
unfolding task_of
read-task c x rows (Ok task) read gives faultless = ap (λ (rows : Result Rows Refusal). rows >>= task_of_rows c) read ∙ gives
read-task c x rows (Err (fault.Refused r)) read gives faultless = ap (λ (rows : Result Rows Refusal). rows >>= task_of_rows c) read ∙ gives
read-task c x rows (Err (fault.ReadFault f)) read gives faultless = absurd faultless
read-task c x rows (Err fault.Memory) read gives faultless = tt

-- ---- a story that is kept

pub unread-kept : (x : Inputs) (why : StoryFault) → GivesRead as_rows (Err why) (rows_of command_is.Store x) → GivesTask as_kept (Err why) (rows_of command_is.Store x) (kept_of x)
unfolding kept_of
unread-kept x (fault.Refused r) read = ap (λ (rows : Result Rows Refusal). rows >>= kept_of_rows) read
unread-kept x (fault.ReadFault f) read = read
unread-kept x fault.Memory read = tt

pub read-kept : (x : Inputs) (rows : Rows) (kept : Result InputKept StoryFault) → rows_of command_is.Store x ≡ Ok rows → GivesRead as_kept kept (kept_of_rows rows) → IfErr kept NeedsNoFault → GivesTask as_kept kept (rows_of command_is.Store x) (kept_of x)
unfolding kept_of
read-kept x rows (Ok kept) read gives faultless = ap (λ (rows : Result Rows Refusal). rows >>= kept_of_rows) read ∙ gives
read-kept x rows (Err (fault.Refused r)) read gives faultless = ap (λ (rows : Result Rows Refusal). rows >>= kept_of_rows) read ∙ gives
read-kept x rows (Err (fault.ReadFault f)) read gives faultless = absurd faultless
read-kept x rows (Err fault.Memory) read gives faultless = tt

-- it is that of a replay of the same input, and what is refused is the same
abbrev pub SameStory : Result KeptStory Refusal → Result Task Refusal → Type 0
SameStory (Ok kept) task = task ≡ Ok (play kept.story)
SameStory (Err r) task = task ≡ Err r

same_events : (built : Built) (events : Result (List (ℕ × Event)) Refusal) → SameStory
    (events >>= (λ events. let k : Result KeptStory Refusal = Ok (record { story = record { day = built.inst; events = events }; batches = built.batches }) in k))
    ((events >>= (λ events. let s : Result Story Refusal = Ok (record { day = built.inst; events = events }) in s)) >>= (λ story. let t : Result Task Refusal = Ok (play story) in t))
same_events built (Ok events) = refl
same_events built (Err r) = refl

same_rows : (read : Result Rows Refusal) → SameStory (read >>= kept_of_rows) (read >>= task_of_rows (command_is.Replay false))
unfolding kept_of_rows task_of_rows story_of_rows
same_rows (Err r) = refl
same_rows (Ok rows) = same_built (or_refused not_joined (built_of rows.files)) (λ (built : Built). or_refused (in_file file.Journal) (events_of built rows.journal))
  where
    same_built : (built : Result Built Refusal) (events : Built → Result (List (ℕ × Event)) Refusal) → SameStory
        (built >>= (λ built. events built >>= (λ events. let k : Result KeptStory Refusal = Ok (record { story = record { day = built.inst; events = events }; batches = built.batches }) in k)))
        ((built >>= (λ built. events built >>= (λ events. let s : Result Story Refusal = Ok (record { day = built.inst; events = events }) in s))) >>= (λ story. let t : Result Task Refusal = Ok (play story) in t))
    same_built (Err r) events = refl
    same_built (Ok built) events = same_events built (events built)

pub same-story : (x : Inputs) → SameStory (kept_of x) (task_of (command_is.Replay false) x)
unfolding kept_of task_of
same-story x = same_rows (rows_of (command_is.Replay false) x)

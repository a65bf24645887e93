-- Runs of which more than one outcome may be right: what a task comes to may depend on what its run made or found, its work.
use Rattle.std.specs.Prelude.{◌≡◌, ◌⊎◌, Option, Some, None}
use Rattle.desk_folder.specs.declared.files.File.{File}
use Rattle.desk_folder.specs.Calls.{AppendsPrefix}
use Rattle.desk_tasks.specs.Commands.{Ask, files_read}
use Rattle.desk_tasks.specs.Inputs.{Inputs, Tells}
use Rattle.desk_tasks.specs.declared.ending.Ending.{Ending}
use Rattle.desk_tasks.specs.Outcome.{fault_text}
use Rattle.desk_tasks.specs.Runs.{World, Meaning, SetsTask}

-- what inputs mean at each work, and which works a run of a task may have
pub record Meanings (Rows Task Work : Type 0) : Type 1 where
  pub at : Work → Meaning Rows Task
  pub IsWorkOf : Task → Work → Type 0

-- no file has got a byte, and the report nothing but the line that says why the run was not done, or a beginning of it
pub record IsUnbegun (before now : World) : Type 0 where
  pub written : (f : File) → now.folder.written f ≡ before.folder.written f
  pub how : Ending
  pub line : AppendsPrefix before.sink.written now.sink.written (fault_text how)

-- a work that a run may have. Where the words ask for nothing, any may be it. Else it is a work of the task that the inputs set, if
-- they set one; only where nothing is written, and nothing reported but why the run was not done, any other may be it too
abbrev pub IsFair : {Rows Task Work : Type 0} → Meanings Rows Task Work → Option Ask → World → World → Work → Type 0
IsFair M None before now work = Unit {0}
IsFair {Task = Task} M (Some a) before now work = (x : Inputs) → Tells (files_read a.command) before.folder x → (t : Task) → SetsTask (M.at work) a.command x t → IsUnbegun before now ⊎ M.IsWorkOf t work

-- a run has one work, and this holds of the meaning at it
pub record AtSomeWork {Rows Task Work : Type 0} (M : Meanings Rows Task Work) (ask : Option Ask) (before now : World) (Holds : Meaning Rows Task → Type 0) : Type 0 where
  pub work : Work
  pub fair : IsFair M ask before now work
  pub holds : Holds (M.at work)

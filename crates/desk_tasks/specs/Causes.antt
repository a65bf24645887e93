-- When each status comes.
use Rattle.std.specs.Prelude.{◌≡◌, ◌≤◌, ◌⊎◌, ℕ, true, List, Option, Result, Ok, Err}
use Rattle.desk_folder.specs.declared.files.File.{File}
use Rattle.desk_folder.specs.declared.faults.FolderFault.{FolderFault}
use Rattle.desk_folder.specs.Files.{file_number}
use Rattle.desk_folder.specs.Outside.{SinkSide}
use Rattle.desk_folder.specs.Calls.{Rose}
use Rattle.desk_folder.specs.Texts.{PutsReport}
use Rattle.desk_folder.specs.Outputs.{is_among}
use Rattle.desk_words.specs.declared.asked.Command.{Command}
use Rattle.desk_tasks.specs.declared.refusal.Refusal.{Refusal}
use Rattle.desk_tasks.specs.declared.ending.Ending.{Ending}
use Rattle.desk_tasks.specs.Inputs.{Inputs}
use Rattle.desk_tasks.specs.Commands.{Ask, files_read, reads, writes}
use Rattle.desk_tasks.specs.Outcome.{refusal_text, fault_text, status_of}
use Rattle.desk_tasks.specs.Runs.{World, Meaning, SetsTask, IsWritten, HasCause}

-- out of memory is the one free answer: the status is this one, unless memory ran out
abbrev pub IsUnlessMemory : ℕ → ℕ → Type 0
IsUnlessMemory code status = (code ≡ status) ⊎ (code ≡ 6)

-- the run was done: with a plan or with none at its end, or with a rule that is broken
abbrev pub IsDoneAt : ℕ → Type 0
IsDoneAt code = (code ≤ 1) ⊎ (code ≡ 7)

-- a run of a command that was done on these inputs: it has the status of the task that they set, all texts of the task are
-- written, and nothing else is reported
pub record IsDone {Rows Task : Type 0} (M : Meaning Rows Task) (c : Command) (before now : World) (x : Inputs) (code : ℕ) : Type 0 where
  pub task : Task
  pub sets : SetsTask M c x task
  pub sound : M.IsSound task
  pub status : code ≡ (M.outcome task).status
  pub written : IsWritten before now (M.outcome task).texts

-- the first refusal of the input, its line in the report, and nothing written to a file
pub record IsRefused {Rows Task : Type 0} (M : Meaning Rows Task) (c : Command) (before now : World) (x : Inputs) : Type 0 where
  pub refusal : Refusal
  pub first : M.task c x ≡ Err refusal
  pub written : (f : File) → now.folder.written f ≡ before.folder.written f
  pub answer : Result (Unit {0}) FolderFault
  pub line : PutsReport before.sink now.sink (refusal_text refusal) answer

-- a fault of the outside: its count rose in this run, and its line is put last
pub record HasFault (ask : Option Ask) (before now : World) (code : ℕ) : Type 0 where
  pub how : Ending
  pub status : status_of how ≡ code
  pub cause : HasCause (reads ask) (writes ask) before now how
  pub sink : SinkSide
  pub answer : Result (Unit {0}) FolderFault
  pub line : PutsReport sink now.sink (fault_text how) answer

-- a file that is read before it is known what comes of reading these: up to the one whose grammar refuses it, or else each of
-- them
abbrev pub IsNeeded : {Rows : Type 0} → List File → File → Result Rows Refusal → Type 0
IsNeeded files f (Ok rows) = is_among f files ≡ true
IsNeeded files f (Err r) = (is_among f files ≡ true) × (file_number f ≤ file_number r.file)

-- the directories were named, and so much of these inputs was read, without a failing call
pub record IsReadable {Rows Task : Type 0} (M : Meaning Rows Task) (c : Command) (before now : World) (x : Inputs) : Type 0 where
  pub place : Rose before.folder.place_faults now.folder.place_faults → ⊥
  pub next : (f : File) → IsNeeded (files_read c) f (M.rows c x) → Rose (before.folder.next_faults f) (now.folder.next_faults f) → ⊥

-- no call failed: no count of faults rose, of the files that are read and written
pub record IsFaultless (ask : Option Ask) (before now : World) : Type 0 where
  pub place : Rose before.folder.place_faults now.folder.place_faults → ⊥
  pub next : (f : File) → is_among f (reads ask) ≡ true → Rose (before.folder.next_faults f) (now.folder.next_faults f) → ⊥
  pub put : (f : File) → is_among f (writes ask) ≡ true → Rose (before.folder.put_faults f) (now.folder.put_faults f) → ⊥
  pub sink : Rose before.sink.faults now.sink.faults → ⊥

-- what the input asks for where no call fails: the status of the task where it is accepted, and 3 where it is refused
abbrev pub AnswersBy : {Rows Task : Type 0} → Meaning Rows Task → Result Task Refusal → ℕ → Type 0
AnswersBy M (Ok t) code = IsUnlessMemory code (M.outcome t).status
AnswersBy M (Err r) code = IsUnlessMemory code 3

abbrev pub Answers : {Rows Task : Type 0} → Meaning Rows Task → Command → Inputs → ℕ → Type 0
Answers M c x code = AnswersBy M (M.task c x) code

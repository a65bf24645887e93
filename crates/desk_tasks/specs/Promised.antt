-- What is promised of each run of the desk, at one work of it: how it ended, what its status means, what stands outside after it, and
-- what is untouched.
use Rattle.std.specs.Prelude.{◌≡◌, ◌≤◌, ℕ, false, Option, Some, None, IfSome, Err}
use Rattle.desk_folder.specs.declared.files.File.{File}
use Rattle.desk_folder.specs.Outside.{Directories}
use Rattle.desk_folder.specs.Outputs.{is_among, IsUnput}
use Rattle.desk_tasks.specs.declared.refusal.Refusal.{Refusal}
use Rattle.desk_tasks.specs.Commands.{Ask, files_read, reads, writes}
use Rattle.desk_tasks.specs.Inputs.{Inputs, Tells}
use Rattle.desk_tasks.specs.Reading.{IsUnread, HasFewTurns, StopsAt}
use Rattle.desk_tasks.specs.Runs.{World, Meaning, AreRead, Runs}
use Rattle.desk_tasks.specs.Causes.{IsUnlessMemory, IsDoneAt, IsDone, IsRefused, HasFault, IsReadable, IsFaultless, Answers}
use Rattle.desk_tasks.specs.Standing.{AreBegun, finished_texts, ReportsFault, IsNamedAt, IsUnnamed}
use Rattle.desk_tasks.specs.Works.{Meanings, AtSomeWork}

-- what each status means
pub record MeansStatus {Rows Task : Type 0} (M : Meaning Rows Task) (ask : Option Ask) (before now : World) (code : ℕ) : Type 0 where
  -- 0, 1 and 7, of any command: the input is accepted, and the run has the status, the files and the report of the task that it sets
  pub done : (a : Ask) → ask ≡ Some a → (x : Inputs) → Tells (files_read a.command) before.folder x → IsDoneAt code → IsDone M a.command before now x code
  -- at these each file that the command reads was read to its end
  pub read : (a : Ask) → ask ≡ Some a → IsDoneAt code → AreRead (files_read a.command) before.folder now.folder
  -- 2: exactly where nothing is asked, since the words are no command
  pub usage : ask ≡ None → IsUnlessMemory code 2
  pub usage_only : code ≡ 2 → ask ≡ None
  -- 3: exactly where the input is refused and no call failed that stands before this refusal: the one that names the directories,
  -- and those that read the files up to the one that its grammar refuses, or all files of the command where their rows do not fit
  -- together
  pub refused_where : (a : Ask) → ask ≡ Some a → (x : Inputs) → Tells (files_read a.command) before.folder x → IsReadable M a.command before now x → (r : Refusal) → M.task a.command x ≡ Err r → IsUnlessMemory code 3
  -- 3: the input is refused; its first refusal is reported, and no file is written
  pub refused : (a : Ask) → ask ≡ Some a → (x : Inputs) → Tells (files_read a.command) before.folder x → code ≡ 3 → IsRefused M a.command before now x
  -- 4 and 5: the count of faults of the call that is named rose in this run, and the command reads or writes the file that is named
  pub fault : 4 ≤ code → code ≤ 5 → HasFault ask before now code
  -- where no call failed, the input alone decides between the status of its task and 3, unless memory runs out
  pub complete : (a : Ask) → ask ≡ Some a → (x : Inputs) → Tells (files_read a.command) before.folder x → IsFaultless ask before now → Answers M a.command x code

-- what stands outside after a run, by its status
pub record Stands {Rows Task : Type 0} (M : Meaning Rows Task) (ask : Option Ask) (before now : World) (code : ℕ) : Type 0 where
  -- the directories last named are those that were asked for, at all but 4 and 6, where the folder shows them
  pub named : (a : Ask) → ask ≡ Some a → (dirs : Directories) → a.place ≡ Some dirs → IsNamedAt code → IfSome before.folder.directories (λ was. now.folder.directories ≡ Some dirs)
  -- at 2, 3 and 4 no file has got a byte
  pub unwritten : 2 ≤ code → code ≤ 4 → (f : File) → now.folder.written f ≡ before.folder.written f
  -- at any status the output files are whole up to one, of which there is a beginning, and there is nothing after it
  pub begun : (x : Inputs) → Tells (reads ask) before.folder x → AreBegun before.folder now.folder (finished_texts M ask x)
  -- at any status a file was asked for its next bytes at most once more than it may have bytes
  pub few : (f : File) → HasFewTurns before.folder now.folder f
  -- from 2 on the sink has got a beginning of the report, which is empty at 2, 3 and 4 and where an output file is not whole, and the
  -- line of the fault, which is empty at 7, and of which a rest is missing only at 6 and where the sink failed
  pub fault_reported : (x : Inputs) → Tells (reads ask) before.folder x → 2 ≤ code → ReportsFault M ask before now x code

-- what a run leaves as it was, at any status
pub record LeavesAlone {Rows Task : Type 0} (M : Meaning Rows Task) (ask : Option Ask) (before now : World) : Type 0 where
  -- where no directories are asked for none are named, and no naming failed
  pub unnamed : (a : Ask) → ask ≡ Some a → a.place ≡ None → IsUnnamed before now
  -- of each file that the command does not read the bytes and the counts of turns and of failed reads stay
  pub unread : (f : File) → is_among f (reads ask) ≡ false → IsUnread before.folder now.folder f
  -- files are read in file order: none after one that its grammar refuses
  pub in_order : (a : Ask) → ask ≡ Some a → (x : Inputs) → Tells (files_read a.command) before.folder x → (r : Refusal) → M.rows a.command x ≡ Err r → StopsAt r.file before.folder now.folder
  -- of each file that the command does not write the bytes and the count of failed writes stay
  pub unput : (f : File) → is_among f (writes ask) ≡ false → IsUnput before.folder now.folder f

-- all of that, of a run with the meaning at its work
pub record IsPromised {Rows Task : Type 0} (M : Meaning Rows Task) (ask : Option Ask) (before now : World) (code : ℕ) : Type 0 where
  -- how the run ended, the cause of each ending, and what was written by then
  pub runs : Runs M ask before now code
  -- what its status means
  pub means : MeansStatus M ask before now code
  -- what stands outside after it
  pub stands : Stands M ask before now code
  -- what is untouched
  pub alone : LeavesAlone M ask before now

-- there is one work of the run at which it keeps all that is promised
abbrev pub RunsAsPromised : {Rows Task Work : Type 0} → Meanings Rows Task Work → Option Ask → World → World → ℕ → Type 0
RunsAsPromised M ask before now code = AtSomeWork M ask before now (λ m. IsPromised m ask before now code)

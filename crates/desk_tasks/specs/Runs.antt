-- What a run does to the outside, by how it ends.
use Rattle.std.specs.Prelude.{◌≡◌, ◌≢◌, ◌≤◌, ◌⊎◌, ℕ, true, false, List, Option, Some, None, IfSome, Result, Ok, Err, MatchOption}
use Rattle.std.specs.Io.KnownBytes.{Appends, Keeps}
use Rattle.desk_folder.specs.declared.files.File.{File}
use Rattle.desk_folder.specs.declared.faults.FolderFault.{FolderFault}
use Rattle.desk_folder.specs.declared.faults.FolderFault.TheVariants as fault
use Rattle.desk_folder.specs.Outside.{Outside, SinkSide, Directories}
use Rattle.desk_folder.specs.Calls.{AppendsPrefix, Rose}
use Rattle.desk_folder.specs.Texts.{PutsReport}
use Rattle.desk_folder.specs.Outputs.{is_among, ArePut, IsUnput}
use Rattle.desk_words.specs.declared.asked.Command.{Command}
use Rattle.desk_tasks.specs.declared.ending.Ending.{Ending}
use Rattle.desk_tasks.specs.declared.ending.Ending.TheVariants as ending
use Rattle.desk_tasks.specs.declared.refusal.Refusal.{Refusal}
use Rattle.desk_tasks.specs.Inputs.{Inputs, Tells}
use Rattle.desk_tasks.specs.Reading.{IsRead, IsUnread, HasFewTurns, StopsAt, StandsFirst}
use Rattle.desk_tasks.specs.Outcome.{Texts, Outcome, fault_text, status_of}
use Rattle.desk_tasks.specs.Commands.{Ask, files_read, files_written}

-- what inputs say to a command: their rows, or the first refusal by a grammar; and the task that they set, or the first
-- refusal. Then what each task comes to, and what reading it makes sure of. Nothing else is asked of the four, so what follows
-- holds of any
pub record Meaning (Rows Task : Type 0) : Type 1 where
  pub rows : Command → Inputs → Result Rows Refusal
  pub task : Command → Inputs → Result Task Refusal
  pub outcome : Task → Outcome
  pub IsSound : Task → Type 0

-- the folder and the sink
pub record World : Type 0 where
  pub folder : Outside
  pub sink : SinkSide

abbrev pub world : Outside → SinkSide → World
world folder sink = record { folder = folder; sink = sink }

-- this holds of the world before a call and after it, as the folder and the sink of the call show it
abbrev pub Between : {F O : Type 0} → (F → Outside) → (O → SinkSide) → F → O → F → O → (World → World → Type 0) → Type 0
Between outside report folder out folder' out' Holds = Holds (world (outside folder) (report out)) (world (outside folder') (report out'))

-- no file has got a byte, and nothing is reported
pub record IsUnreported (before now : World) : Type 0 where
  pub written : (f : File) → now.folder.written f ≡ before.folder.written f
  pub sink : now.sink ≡ before.sink

-- all texts were written
abbrev pub IsWritten : World → World → Texts → Type 0
IsWritten before now t = ArePut (λ f. ⊥) (Appends before.sink.written now.sink.written t.report) t.files before.folder now.folder

-- writing stopped in this file, or in the report: what comes before is whole, and what comes after is not begun
abbrev pub StopsIn : File → World → World → Texts → Type 0
StopsIn f before now t = ArePut (λ g. (g ≡ f) × Keeps before.sink.written now.sink.written) ⊥ t.files before.folder now.folder

abbrev pub StopsInReport : World → World → Texts → Type 0
StopsInReport before now t = ArePut (λ f. ⊥) (AppendsPrefix before.sink.written now.sink.written t.report) t.files before.folder now.folder

-- it stopped in any of them
abbrev pub Stops : World → World → Texts → Type 0
Stops before now t = ArePut (λ f. Keeps before.sink.written now.sink.written) (AppendsPrefix before.sink.written now.sink.written t.report) t.files before.folder now.folder

-- the task that the inputs set the command
abbrev pub SetsTask : {Rows Task : Type 0} → Meaning Rows Task → Command → Inputs → Task → Type 0
SetsTask M c x t = M.task c x ≡ Ok t

-- what a run that was done did: it wrote all texts that the task comes to
pub record Finishes {Rows Task : Type 0} (M : Meaning Rows Task) (before now : World) (t : Task) (status : ℕ) : Type 0 where
  pub sound : M.IsSound t
  pub status_is : (M.outcome t).status ≡ status
  pub written : IsWritten before now (M.outcome t).texts

-- what a run of a command did on these inputs, by its ending; where a file could not be read, no grammar refuses one before it
abbrev pub Does : {Rows Task : Type 0} → Meaning Rows Task → Command → World → World → Inputs → Ending → Type 0
Does {Task = Task} M c before now x ending.Done = (t : Task) × SetsTask M c x t × Finishes M before now t 0
Does {Task = Task} M c before now x ending.NoPlan = (t : Task) × SetsTask M c x t × Finishes M before now t 1
Does {Task = Task} M c before now x ending.BrokenRule = (t : Task) × SetsTask M c x t × Finishes M before now t 7
Does M c before now x ending.Usage = ⊥
Does M c before now x (ending.OnDisk end) = ⊥
Does M c before now x (ending.Refused r) = M.task c x ≡ Err r
Does M c before now x ending.PlaceFault = Unit {0}
Does M c before now x (ending.ReadFault f) = StandsFirst f (M.rows c x)
Does {Task = Task} M c before now x (ending.WriteFault f) = (t : Task) × SetsTask M c x t × StopsIn f before now (M.outcome t).texts
Does {Task = Task} M c before now x ending.ReportFault = (t : Task) × SetsTask M c x t × StopsInReport before now (M.outcome t).texts
Does {Task = Task} M c before now x ending.Memory = IsUnreported before now ⊎ ((t : Task) × SetsTask M c x t × Stops before now (M.outcome t).texts)

-- only a fault of the outside ends a run so: its count of that very call and file rose, and the file is one of those that are
-- read or written. What a run does without a disk no journal on a disk ends
abbrev pub HasCause : List File → List File → World → World → Ending → Type 0
HasCause inputs outputs before now ending.PlaceFault = Rose before.folder.place_faults now.folder.place_faults
HasCause inputs outputs before now (ending.ReadFault f) = (is_among f inputs ≡ true) × Rose (before.folder.next_faults f) (now.folder.next_faults f)
HasCause inputs outputs before now (ending.WriteFault f) = (is_among f outputs ≡ true) × Rose (before.folder.put_faults f) (now.folder.put_faults f)
HasCause inputs outputs before now ending.ReportFault = Rose before.sink.faults now.sink.faults
HasCause inputs outputs before now (ending.OnDisk end) = ⊥
HasCause inputs outputs before now other = Unit {0}

-- no directories are named, and no naming failed
pub record IsUnplaced (before now : World) (how : Ending) : Type 0 where
  pub no_fault : how ≢ ending.PlaceFault
  pub directories : now.folder.directories ≡ before.folder.directories
  pub faults : now.folder.place_faults ≡ before.folder.place_faults

-- these directories are named, unless a fault or running out of memory came before
abbrev pub AreNamed : Directories → World → World → Ending → Type 0
AreNamed dirs before now ending.PlaceFault = Unit {0}
AreNamed dirs before now ending.Memory = Unit {0}
AreNamed dirs before now other = IfSome before.folder.directories (λ was. now.folder.directories ≡ Some dirs)

abbrev pub IsPlaced : Option Directories → World → World → Ending → Type 0
IsPlaced None before now how = IsUnplaced before now how
IsPlaced (Some dirs) before now how = AreNamed dirs before now how

-- all files of the command were read to their end
abbrev pub AreRead : List File → Outside → Outside → Type 0
AreRead files before now = (f : File) → is_among f files ≡ true → IsRead before now f

abbrev pub IsReadWhole : List File → World → World → Ending → Type 0
IsReadWhole files before now ending.Done = AreRead files before.folder now.folder
IsReadWhole files before now ending.NoPlan = AreRead files before.folder now.folder
IsReadWhole files before now ending.BrokenRule = AreRead files before.folder now.folder
IsReadWhole files before now other = Unit {0}

-- where a run ends before its task is done, nothing is written or reported; where the directories could not be named,
-- nothing was read, and where a file could not be read, none after it was
abbrev pub IsSilent : World → World → Ending → Type 0
IsSilent before now (ending.Refused r) = IsUnreported before now
IsSilent before now ending.PlaceFault = IsUnreported before now × ((f : File) → IsUnread before.folder now.folder f)
IsSilent before now (ending.ReadFault f) = IsUnreported before now × StopsAt f before.folder now.folder
IsSilent before now other = Unit {0}

-- a run that does what is asked, before its fault's line
pub record Obeys {Rows Task : Type 0} (M : Meaning Rows Task) (a : Ask) (before now : World) (how : Ending) : Type 0 where
  pub no_usage : how ≢ ending.Usage
  pub cause : HasCause (files_read a.command) (files_written a.command) before now how
  pub does : (x : Inputs) → Tells (files_read a.command) before.folder x → Does M a.command before now x how
  pub placed : IsPlaced a.place before now how
  pub read : IsReadWhole (files_read a.command) before now how
  pub silent : IsSilent before now how
  pub kept : before.sink.faults ≤ now.sink.faults
  -- no file is read after one that its grammar refuses
  pub in_order : (x : Inputs) → Tells (files_read a.command) before.folder x → (r : Refusal) → M.rows a.command x ≡ Err r → StopsAt r.file before.folder now.folder
  -- each file is read in few turns
  pub few : (f : File) → HasFewTurns before.folder now.folder f
  -- no other file is read, and none but those of the command is written
  pub unread : (f : File) → is_among f (files_read a.command) ≡ false → IsUnread before.folder now.folder f
  pub unput : (f : File) → is_among f (files_written a.command) ≡ false → IsUnput before.folder now.folder f

-- nothing was called
pub record IsUntouched (before now : World) : Type 0 where
  pub folder : now.folder ≡ before.folder
  pub sink : now.sink ≡ before.sink

-- a run by what is asked of the desk, before its fault's line; where nothing is asked it is a usage refusal
abbrev pub EndsBy : {Rows Task : Type 0} → Meaning Rows Task → Option Ask → World → World → Ending → Type 0
EndsBy M ask before now how = MatchOption ask ((how ≡ ending.Usage) × IsUntouched before now) (λ a. Obeys M a before now how)

-- out of memory while the fault's line is put gives status 6, and a fault of the sink leaves the status
abbrev pub status_after : Ending → Result (Unit {0}) FolderFault → ℕ
status_after how (Ok done) = status_of how
status_after how (Err fault.Failed) = status_of how
status_after how (Err fault.Memory) = 6

-- the line that names an ending is put into the sink
pub record TellsEnd (how : Ending) (before now : SinkSide) (code : ℕ) : Type 0 where
  pub answer : Result (Unit {0}) FolderFault
  pub line : PutsReport before now (fault_text how) answer
  pub status : code ≡ status_after how answer

-- a run by what is asked of the desk: how it ended, what the sink had before the fault's line, and that line
pub record Runs {Rows Task : Type 0} (M : Meaning Rows Task) (ask : Option Ask) (before now : World) (code : ℕ) : Type 0 where
  pub how : Ending
  pub sink : SinkSide
  pub ends : EndsBy M ask before (record { folder = now.folder; sink = sink }) how
  pub answer : Result (Unit {0}) FolderFault
  pub line : PutsReport sink now.sink (fault_text how) answer
  pub status : code ≡ status_after how answer

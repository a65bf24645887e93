-- What is said of a run that keeps its journal on a disk.
use Rattle.std.specs.Prelude.{◌≡◌, ◌≢◌, ◌≤◌, ◌⊎◌, ℕ, false, List, length, Option, Some, None, IfSome, Result, Ok}
use Rattle.std.specs.Option.{option_map}
use Rattle.desk_folder.specs.declared.files.File.{File}
use Rattle.desk_folder.specs.declared.faults.FolderFault.{FolderFault}
use Rattle.desk_folder.specs.Outside.{Directories}
use Rattle.desk_folder.specs.Calls.{Rose}
use Rattle.desk_folder.specs.Outputs.{is_among, IsUnput}
use Rattle.desk_folder.specs.Texts.{PutsReport}
use Rattle.desk_disk.specs.FileStates.{DiskSide, stays}
use Rattle.desk_model.specs.States.{opening}
use Rattle.desk_model.specs.Histories.{state}
use Rattle.desk_words.specs.declared.asked.Command.TheVariants as command_is
use Rattle.desk_words.specs.Commands.{Asking}
use Rattle.desk_tasks.specs.declared.ending.DiskEnd.{DiskEnd}
use Rattle.desk_tasks.specs.declared.ending.DiskEnd.TheVariants as disk_end
use Rattle.desk_tasks.specs.declared.ending.Ending.{Ending}
use Rattle.desk_tasks.specs.declared.ending.Ending.TheVariants as ending
use Rattle.desk_tasks.specs.Commands.{Ask, files_read, reads}
use Rattle.desk_tasks.specs.Inputs.{Inputs, Tells}
use Rattle.desk_tasks.specs.Reading.{IsUnread, HasFewTurns}
use Rattle.desk_tasks.specs.Outcome.{fault_text}
use Rattle.desk_tasks.specs.Runs.{World, Meaning, AreRead, IsPlaced, status_after}
use Rattle.desk_tasks.specs.Works.{IsUnbegun}
use Rattle.desk_tasks.specs.Promised.{IsPromised}
use Rattle.desk_tasks.specs.Play.{Story, plan_status}
use Rattle.desk_tasks.specs.Keep.{KeptStory, kept}
use Rattle.desk_tasks.specs.Tasks.{play, IsRunnable}
use Rattle.desk_tasks.specs.Headline.{HasKept}
use Rattle.desk_tasks.specs.Story.{Rows, rows_of, task_of, kept_of}
use Rattle.story_commands.specs.Held.{entered}
use Rattle.story_commands.specs.Journal.{IsKept, LeavesJournal, OnlyOpens, PassesComparison, WhereShown}
use Rattle.story_commands.specs.Own.{CanBeStored, IsOwn, OpensFor}

-- the directories of words that ask for a journal on a disk
abbrev pub kept_directories : Option Asking → Option Directories
kept_directories (Some (command_is.Store, dirs)) = dirs
kept_directories other = None

-- what inputs mean to such a run, where the disk held so many entries: the story with the batches of its day, and what that comes
-- to, which is what a replay comes to with that number first in the report
abbrev pub kept_meaning : ℕ → Meaning Rows KeptStory
kept_meaning held = record { rows = rows_of; task = λ c x. kept_of x; outcome = λ k. kept held k.story; IsSound = λ k. IsRunnable k.story }

-- ---- the journal on a disk that shows its file

-- the story of the inputs is kept behind the records that the file held; the events of its history may stand one behind another in a
-- journal of its day, so that a file that opens as a beginning of it is one that the next run takes
pub record Keeps (x : Inputs) (was now : DiskSide) : Type 0 where
  pub k : KeptStory
  pub sets : kept_of x ≡ Ok k
  pub can : CanBeStored k
  pub records : List (List ℕ)
  pub passes : PassesComparison k records was now

-- at each moment: until the comparison has passed each crash leaves all bytes but the one that opening sets; and from then on a file
-- that opens as a beginning of the history, with all entries that the disk held
abbrev pub StandsAlways : Inputs → DiskSide → DiskSide → Type 0
StandsAlways x was now = OnlyOpens was now ⊎ Keeps x was now

-- at the end: the file opens as all of the history, whatever crash comes
pub record HoldsAll (x : Inputs) (was now : DiskSide) : Type 0 where
  pub keeps : Keeps x was now
  pub all : IsKept keeps.k keeps.records now

-- a story's own file, with n entries or more, which the next run opens as these
abbrev pub IsOpenedNext : KeptStory → ℕ → List ℕ → Type 0
IsOpenedNext k n c = IsOwn k n c × OpensFor k n c

-- an output file has got a byte
abbrev pub HasBegun : World → World → Type 0
HasBegun before now = (f : File) × (now.folder.written f ≢ before.folder.written f)

-- the status of a run that wrote all, or could not write all
abbrev pub IsWrittenAt : ℕ → Type 0
IsWrittenAt code = (code ≤ 1) ⊎ (code ≡ 5)

-- the statuses at which the disk's directory is that of the output
abbrev pub IsPlacedAt : ℕ → Type 0
IsPlacedAt code = (code ≤ 1) ⊎ ((code ≡ 3) ⊎ (code ≡ 5))

-- where it is shown which name was last given: unless it is this one, this holds
abbrev pub UnlessNamed : {Name : Type 0} → Option Name → Option Name → Name → Type 0 → Type 0
UnlessNamed shown shown' name Holds = IfSome shown (λ _. shown' ≢ Some name → Holds)

-- ---- how a run ends

-- the directories that are asked for are named, or, where none are, none is named
abbrev pub AreNamedFor : Option Ask → World → World → Ending → Type 0
AreNamedFor None before now how = Unit {0}
AreNamedFor (Some a) before now how = IsPlaced a.place before now how

-- the input was accepted, and the file on the disk, where it is shown, says that the run ends so: at `Damaged` it was damaged, and at
-- `Other` it was of other events, with the line at which they differ first. Only opening has changed a byte then
abbrev pub JournalSays : Inputs → Option DiskSide → Option DiskSide → DiskEnd → Type 0
JournalSays x shown shown' how = (k : KeptStory) × (kept_of x ≡ Ok k) × WhereShown shown shown' (λ was now. LeavesJournal k was now (ending.OnDisk how))

-- a run that the journal on the disk ended: its line is reported, and nothing is written
pub record EndsAtDisk (ask : Option Ask) (before now : World) (faults faults' : ℕ) (shown shown' : Option DiskSide) (code : ℕ) : Type 0 where
  pub how : DiskEnd
  pub answer : Result (Unit {0}) FolderFault
  pub line : PutsReport before.sink now.sink (fault_text (ending.OnDisk how)) answer
  pub status : code ≡ status_after (ending.OnDisk how) answer
  -- the disk failed only where its count rose
  pub cause : how ≡ disk_end.Fault → Rose faults faults'
  -- the directories are named, each file of the command was read to its end, the input was accepted, and the journal says so
  pub named : AreNamedFor ask before now (ending.OnDisk how)
  pub read : AreRead (files_read command_is.Store) before.folder now.folder
  pub says : (x : Inputs) → Tells (files_read command_is.Store) before.folder x → JournalSays x shown shown' how
  pub written : (f : File) → now.folder.written f ≡ before.folder.written f
  pub few : (f : File) → HasFewTurns before.folder now.folder f
  pub unread : (f : File) → is_among f (reads ask) ≡ false → IsUnread before.folder now.folder f
  pub unput : (f : File) → IsUnput before.folder now.folder f
  pub sink_kept : before.sink.faults ≤ now.sink.faults

-- a run that ended since the disk failed to name its directory: the line of that fault is reported, nothing is read or written, and the
-- file on the disk is as it was
pub record FailsToName (ask : Option Ask) (before now : World) (faults faults' : ℕ) (shown shown' : Option DiskSide) (code : ℕ) : Type 0 where
  pub answer : Result (Unit {0}) FolderFault
  pub line : PutsReport before.sink now.sink (fault_text (ending.OnDisk disk_end.Fault)) answer
  pub status : code ≡ status_after (ending.OnDisk disk_end.Fault) answer
  pub cause : Rose faults faults'
  pub named : AreNamedFor ask before now (ending.OnDisk disk_end.Fault)
  pub same : shown' ≡ option_map stays shown
  pub written : (f : File) → now.folder.written f ≡ before.folder.written f
  pub unread : (f : File) → IsUnread before.folder now.folder f
  pub unput : (f : File) → IsUnput before.folder now.folder f
  pub sink_kept : before.sink.faults ≤ now.sink.faults

-- a run whose status is of none that wrote, and that wrote nothing but the line of a fault
pub record WritesNothing (before now : World) (code : ℕ) : Type 0 where
  pub unbegun : IsUnbegun before now
  pub late : IsWrittenAt code → ⊥

-- the history is on the disk, and the file held so many entries before
abbrev pub HoldsSince : ℕ → Inputs → DiskSide → DiskSide → Type 0
HoldsSince held x was now = (all : HoldsAll x was now) × (held ≡ length (entered all.keeps.records))

-- so many entries were in the file, where it is shown; of a run that wrote nothing that says how many, nothing is said
abbrev pub AreCounted : ℕ → World → World → Option DiskSide → Option DiskSide → ℕ → Type 0
AreCounted held before now shown shown' code = WritesNothing before now code ⊎ ((x : Inputs) → Tells (files_read command_is.Store) before.folder x → WhereShown shown shown' (HoldsSince held x))

-- a run that keeps all that is promised of each run, as a replay does, with the number of entries that the file on the disk held
pub record KeepsPromise (ask : Option Ask) (before now : World) (shown shown' : Option DiskSide) (code : ℕ) : Type 0 where
  pub held : ℕ
  pub keeps : IsPromised (kept_meaning held) ask before now code
  pub counts : AreCounted held before now shown shown' code

-- the journal on the disk ended it, or it keeps that promise
abbrev pub RunsKept : Option Ask → World → World → ℕ → ℕ → Option DiskSide → Option DiskSide → ℕ → Type 0
RunsKept ask before now faults faults' shown shown' code = EndsAtDisk ask before now faults faults' shown shown' code ⊎ KeepsPromise ask before now shown shown' code

-- the same where the disk is told its directory first
abbrev pub RunsOnDisk : Option Ask → World → World → ℕ → ℕ → Option DiskSide → Option DiskSide → ℕ → Type 0
RunsOnDisk ask before now faults faults' shown shown' code = FailsToName ask before now faults faults' shown shown' code ⊎ RunsKept ask before now faults faults' shown shown' code

-- of the disk at most its directory was named: the file is as it was
abbrev pub IsAtMostNamed : Option DiskSide → Option DiskSide → Type 0
IsAtMostNamed shown shown' = (shown' ≡ shown) ⊎ (shown' ≡ option_map stays shown)

-- once it was done: the inputs give the story that a replay of them gives, and there is a history with the headline, whose number of
-- entries that the disk held stands first in the report, as the file has them where it is shown; the status is 1 where it ends with no
-- plan and else 0
pub record IsStored (before now : World) (shown shown' : Option DiskSide) (x : Inputs) (code : ℕ) : Type 0 where
  pub story : Story
  pub sets : task_of (command_is.Replay false) x ≡ Ok (play story)
  pub held : ℕ
  pub headline : HasKept before now story held
  pub counts : WhereShown shown shown' (HoldsSince held x)
  pub status : code ≡ plan_status (state (opening story.day) headline.history).broken

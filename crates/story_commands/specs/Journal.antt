-- What a run that keeps the journal of a story on a disk does.
use Rattle.std.specs.Prelude.{◌≡◌, ℕ, ◌≤◌, ◌⊎◌, List, [], length, Option, Some}
use Rattle.desk_data.specs.Situation.{Situation}
use Rattle.day_orders.specs.declared.orders.Batch.{Batch}
use Rattle.desk_model.specs.declared.answer.Event.{Event}
use Rattle.desk_model.specs.States.{opening}
use Rattle.desk_disk.specs.FileStates.{DiskSide}
use Rattle.desk_disk.specs.Crashes.{LeavesOnly}
use Rattle.desk_disk.specs.Records.{AreAccepted, IsDamagedAt, Opens}
use Rattle.desk_disk.specs.Files.{IsAtRest, IsOpening, opened_at}
use Rattle.desk_journal.specs.Payloads.{MayStand}
use Rattle.desk_tasks.specs.declared.ending.DiskEnd.TheVariants as disk_end
use Rattle.desk_tasks.specs.declared.ending.Ending.{Ending}
use Rattle.desk_tasks.specs.declared.ending.Ending.TheVariants as ending
use Rattle.desk_tasks.specs.Commands.{history_files}
use Rattle.desk_tasks.specs.Runs.{World}
use Rattle.desk_tasks.specs.Finishing.{Completes}
use Rattle.desk_tasks.specs.Play.{history, story_on}
use Rattle.desk_tasks.specs.Keep.{KeptStory, kept}
use Rattle.story_commands.specs.Held.{entered, story_payloads, AreFirst, completed}
use Rattle.story_commands.specs.Compared.{DiffersAt}
use Rattle.story_commands.specs.Left.{HoldsBeginning}

-- these events on this day, and the batches of it
abbrev pub kept_story : Situation → List Batch → List (ℕ × Event) → KeptStory
kept_story day batches events = record { story = story_on day events; batches = batches }

-- the file opens as these records, each of which may stand there on the day with its batches
pub record HoldsRecords (k : KeptStory) (records : List (List ℕ)) (c : List ℕ) : Type 0 where
  pub place : ℕ
  pub opens : Opens records place c
  pub each : AreAccepted (MayStand k.story.day k.batches) [] records

-- until the comparison has passed each crash leaves all bytes but the one that opening sets
abbrev pub OnlyOpens : DiskSide → DiskSide → Type 0
OnlyOpens was now = LeavesOnly was now (IsOpening was.file.bytes)

-- the file was only read: it is as it was, and each crash leaves its bytes
pub record IsOnlyRead (was now : DiskSide) : Type 0 where
  pub same : now.file ≡ was.file
  pub leaves : LeavesOnly was now (λ c. c ≡ was.file.bytes)

-- the file was opened, and no more: a byte 0 stands behind the records that it opens as, all else is as before, and nothing is pending
pub record IsOpened (was now : DiskSide) : Type 0 where
  pub records : List (List ℕ)
  pub place : ℕ
  pub opens : Opens records place was.file.bytes
  pub rest : IsAtRest records place now.file
  pub bytes : now.file.bytes ≡ opened_at place was.file.bytes

-- a run that opens a file, compares what it holds with these payloads, n of which it had, and adds those that are missing: until
-- the comparison has passed the bytes stay but for the one that opening sets; from then on each crash leaves the first of them, n at
-- least
pub record Stores (was now : DiskSide) (all : List (List ℕ)) (n : ℕ) : Type 0 where
  pub compared : DiskSide
  pub opening : LeavesOnly was compared (IsOpening was.file.bytes)
  pub adding : LeavesOnly compared now (HoldsBeginning all n)

-- the comparison has passed: the file held these records, and their entries are the first of the history. From then on each crash
-- leaves a file that opens as these records and the first of the entries that they lack
pub record PassesComparison (k : KeptStory) (records : List (List ℕ)) (was now : DiskSide) : Type 0 where
  pub held : HoldsRecords k records was.file.bytes
  pub first : AreFirst records (story_payloads k.story)
  pub stores : Stores was now (completed records (story_payloads k.story)) (length records)

-- at the end the file opens as the whole history, whatever crash comes
pub record IsKept (k : KeptStory) (records : List (List ℕ)) (now : DiskSide) : Type 0 where
  pub place : ℕ
  pub rest : IsAtRest (completed records (story_payloads k.story)) place now.file

-- what the journal on the disk said, where it ended the run
pub record IsDamaged (k : KeptStory) (c : List ℕ) : Type 0 where
  pub at : ℕ
  pub records : List (List ℕ)
  pub there : IsDamagedAt (MayStand k.story.day k.batches) records at c

pub record IsOfOthers (k : KeptStory) (c : List ℕ) (line : ℕ) : Type 0 where
  pub records : List (List ℕ)
  pub held : HoldsRecords k records c
  pub differs : DiffersAt (opening k.story.day) k.story.events (entered records) line

-- what a run leaves on the disk that ended before it wrote anything, by how it ended: a damaged journal was only read; one of other
-- events was opened, and no more, and on the way there each crash leaves all bytes but the one that opening sets
abbrev pub LeavesJournal : KeptStory → DiskSide → DiskSide → Ending → Type 0
LeavesJournal k was now (ending.OnDisk disk_end.Damaged) = IsDamaged k was.file.bytes × IsOnlyRead was now
LeavesJournal k was now (ending.OnDisk (disk_end.Other line)) = IsOfOthers k was.file.bytes line × OnlyOpens was now × IsOpened was now
LeavesJournal k was now other = OnlyOpens was now ⊎ ((records : List (List ℕ)) × PassesComparison k records was now)

-- a run that the disk or want of memory stopped
abbrev pub IsStopped : Ending → Type 0
IsStopped (ending.OnDisk disk_end.Fault) = Unit {0}
IsStopped ending.Memory = Unit {0}
IsStopped other = ⊥

-- how a run may end that has written nothing
abbrev pub IsEarly : Ending → Type 0
IsEarly (ending.OnDisk end) = Unit {0}
IsEarly ending.Memory = Unit {0}
IsEarly other = ⊥

-- this holds of a disk that shows its file, before a run and after it
abbrev pub WhereShown : Option DiskSide → Option DiskSide → (DiskSide → DiskSide → Type 0) → Type 0
WhereShown shown shown' Holds = (was : DiskSide) → shown ≡ Some was → (now : DiskSide) × (shown' ≡ Some now) × Holds was now

-- a run that ended before it wrote anything: the folder and the sink are as before
pub record EndsEarly (k : KeptStory) (before now : World) (shown shown' : Option DiskSide) (how : Ending) : Type 0 where
  pub early : IsEarly how
  pub same : now ≡ before
  pub disk : WhereShown shown shown' (λ was now. LeavesJournal k was now how)

-- a run that came to its writing: all of the history is on the disk by then. It wrote what the story comes to, with how many
-- entries the disk held first in the report, up to how it ended
pub record EndsWritten (k : KeptStory) (before now : World) (shown shown' : Option DiskSide) (how : Ending) : Type 0 where
  pub held : ℕ
  pub most : held ≤ length (history k.story)
  pub completes : Completes history_files before now (kept held k.story) how
  pub disk : WhereShown shown shown' (λ was now. (records : List (List ℕ)) × PassesComparison k records was now × IsKept k records now × (held ≡ length (entered records)))

abbrev pub KeepsStory : KeptStory → World → World → Option DiskSide → Option DiskSide → Ending → Type 0
KeepsStory k before now shown shown' how = EndsEarly k before now shown shown' how ⊎ EndsWritten k before now shown shown' how

-- The faults of readers and joins, as those of the input.
use Rattle.std.specs.Prelude.{◌≡◌, ℕ, Result, Ok, Err}
use Rattle.desk_folder.specs.declared.files.File.{File}
use Rattle.desk_text.specs.declared.fault.ReadFault.{ReadFault}
use Rattle.desk_text.specs.declared.fault.ReadFault.TheVariants as read
use Rattle.desk_build.specs.declared.fault.BuildFault.{BuildFault}
use Rattle.desk_build.specs.declared.fault.BuildFault.TheVariants as build
use Rattle.file_rows.specs.declared.cause.Cause.{Cause}
use Rattle.desk_tasks.specs.declared.ending.Ending.{Ending}
use Rattle.desk_tasks.specs.declared.ending.Ending.TheVariants as ending
use Rattle.desk_tasks.specs.declared.fault.StoryFault.{StoryFault}
use Rattle.desk_tasks.specs.declared.fault.StoryFault.TheVariants as fault
use Rattle.desk_tasks.specs.Story.{Rows, refusal, not_joined}

-- a line that the grammar of its file refuses
abbrev pub read_fault : File → ReadFault → StoryFault
read_fault file (read.Refused line cause) = fault.Refused (refusal file cause line)
read_fault file read.Memory = fault.Memory

-- a line that does not fit those of the other files; of the journal, one that gives no event; of the files of a plan, one that gives no plan
abbrev pub build_fault : BuildFault → StoryFault
build_fault (build.Refused file line cause) = fault.Refused (not_joined (file, line, cause))
build_fault build.Memory = fault.Memory

-- how a run ends where its input sets no task
abbrev pub story_end : StoryFault → Ending
story_end (fault.Refused r) = ending.Refused r
story_end (fault.ReadFault f) = ending.ReadFault f
story_end fault.Memory = ending.Memory

-- the rows are these now, or the line that is refused; out of memory may come at any time
abbrev pub GivesRows : Result (Unit {0}) ReadFault → Result Rows (ℕ × Cause) → Rows → Type 0
GivesRows (Ok done) rows now = rows ≡ Ok now
GivesRows (Err (read.Refused line cause)) rows now = rows ≡ Err (line, cause)
GivesRows (Err read.Memory) rows now = Unit {0}

-- what was read stands there now; or nothing was read, and this is why
abbrev pub IsPut : {V X : Type 0} → (V → X) → Result (Unit {0}) ReadFault → Result V ReadFault → X → Type 0
IsPut view (Ok done) (Ok rows) now = now ≡ view rows
IsPut view (Ok done) (Err fault) now = ⊥
IsPut view (Err fault) (Ok rows) now = ⊥
IsPut view (Err fault) (Err why) now = fault ≡ why

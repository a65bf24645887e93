-- What reading the input gives, and what it does to the outside where it gives nothing.
use Rattle.std.specs.Prelude.{◌≡◌, Bool, true, ◌&&◌, List, [], ◌∷◌, Result, Ok, Err, nat_lt}
use Rattle.std.specs.List.{list_all}
use Rattle.desk_folder.specs.declared.files.File.{File}
use Rattle.desk_folder.specs.Files.{file_number}
use Rattle.desk_folder.specs.Outside.{Outside}
use Rattle.desk_folder.specs.Calls.{Rose}
use Rattle.desk_folder.specs.Outputs.{is_among}
use Rattle.desk_tasks.specs.declared.refusal.Refusal.{Refusal}
use Rattle.desk_tasks.specs.Reading.{StopsAt, StandsFirst}
use Rattle.desk_tasks.specs.declared.fault.StoryFault.{StoryFault}
use Rattle.desk_tasks.specs.declared.fault.StoryFault.TheVariants as fault

-- each file stands before those after it in file order, so none stands twice
abbrev pub are_in_order : List File → Bool
are_in_order [] = true
are_in_order (f ∷ others) = list_all (λ g. nat_lt (file_number f) (file_number g)) others && are_in_order others

-- where the reading of a file failed, none after it was read
abbrev pub StopsAtFault : Outside → Outside → StoryFault → Type 0
StopsAtFault before now (fault.ReadFault f) = StopsAt f before now
StopsAtFault before now (fault.Refused r) = Unit {0}
StopsAtFault before now fault.Memory = Unit {0}

-- what was read is this, or its refusal; where a reading failed, no file before it is refused; out of memory may come at any time
abbrev pub GivesRead : {V X : Type 0} → (V → X) → Result V StoryFault → Result X Refusal → Type 0
GivesRead view (Ok v) read = read ≡ Ok (view v)
GivesRead view (Err (fault.Refused r)) read = read ≡ Err r
GivesRead view (Err (fault.ReadFault f)) read = StandsFirst f read
GivesRead view (Err fault.Memory) read = Unit {0}

-- the reading of one of these files ends by a fault only where its count of failed reads rose
abbrev pub HasReadCause : List File → Outside → Outside → StoryFault → Type 0
HasReadCause files before now (fault.ReadFault f) = (is_among f files ≡ true) × Rose (before.next_faults f) (now.next_faults f)
HasReadCause files before now (fault.Refused r) = Unit {0}
HasReadCause files before now fault.Memory = Unit {0}

-- the task of these files, or its refusal; where a reading failed, no grammar refuses a file before it
abbrev pub GivesTask : {V X Rows : Type 0} → (V → X) → Result V StoryFault → Result Rows Refusal → Result X Refusal → Type 0
GivesTask view (Ok v) rows task = task ≡ Ok (view v)
GivesTask view (Err (fault.Refused r)) rows task = task ≡ Err r
GivesTask view (Err (fault.ReadFault f)) rows task = StandsFirst f rows
GivesTask view (Err fault.Memory) rows task = Unit {0}

-- a fault of a line or of rows, and none of the folder
abbrev pub NeedsNoFault : StoryFault → Type 0
NeedsNoFault (fault.Refused r) = Unit {0}
NeedsNoFault fault.Memory = Unit {0}
NeedsNoFault (fault.ReadFault f) = ⊥

-- What a disk in memory shows of itself. It keeps the bytes that it began with and what each call did, and no state twice.
use Rattle.std.specs.Prelude.{ℕ, ◌+◌, ◌-◌, ◌^◌, ◌==◌, min, Bool, List, [], ◌∷◌, length, Option, Some, None}
use Rattle.std.specs.declared.alloc.Global.{Global}
use Rattle.std.specs.declared.vec.Vec.{Vec}
use Rattle.std.specs.List.{list_any}
use Rattle.desk_disk.specs.FileStates.{FileState, DiskSide, after_write, after_sync}
use Rattle.desk_disk.specs.declared.changes.Change.{Change}
use Rattle.desk_disk.specs.declared.changes.Change.TheVariants.{Nothing, Written, Synced}

-- a file of these bytes, of which nothing is pending
abbrev pub unwritten : List ℕ → FileState
unwritten bytes = record { bytes = bytes; pending = []; synced = length bytes }

-- the file after a call
abbrev pub after_change : FileState → Change → FileState
after_change h Nothing = h
after_change h (Written at room bytes) = after_write at room bytes.items h
after_change h Synced = after_sync h

-- the file after these calls, and its states before each of them
abbrev pub state_after : FileState → List Change → FileState
state_after h [] = h
state_after h (change ∷ changes) = state_after (after_change h change) changes

abbrev pub states_before : FileState → List Change → List FileState
states_before h [] = []
states_before h (change ∷ changes) = h ∷ states_before (after_change h change) changes

-- a disk whose file was h, after these calls
abbrev pub side_after : FileState → List Change → DiskSide
side_after h changes = record { file = state_after h changes; past = states_before h changes }

-- the bytes that stand: those that were written over, or those of the beginning where there was no write
abbrev pub standing : List ℕ → Option (Vec ℕ Global) → List ℕ
standing begun None = begun
standing begun (Some bytes) = bytes.items

-- a disk in memory: its file and its past, the directory last named, how many calls failed and how many were made, the numbers of
-- those that fail, and how many bytes of a write that fails stand
pub record MemoryDisk : Type 0 where
  pub side : DiskSide
  pub directory : List ℕ
  pub faults : ℕ
  pub calls : ℕ
  pub fail : List ℕ
  pub torn : ℕ

-- the number of the next call, counted from 1, and whether it is one of those that fail
abbrev pub disk_call : MemoryDisk → ℕ
disk_call m = min (m.calls + 1) (2 ^ 64 - 1)

abbrev pub disk_fails : MemoryDisk → Bool
disk_fails m = list_any (λ n. n == disk_call m) m.fail

-- What holds of a disk at each moment of a run of calls.
use Rattle.std.specs.Prelude.{◌≡◌, ◌≤◌, ◌+◌, ℕ, max, List, [], ◌∷◌, ◌++◌, length, take, drop, Option, Some}
use Rattle.std.specs.List.{AllByRecursion}
use Rattle.desk_disk.specs.FileStates.{FileState, DiskSide, MayLeave}

-- whatever a crash leaves of this file has P
abbrev pub Leaves : (List ℕ → Type 0) → FileState → Type 0
Leaves P h = (c : List ℕ) → MayLeave h c → P c

-- from one moment to another, a crash at any moment between, both included, leaves a file that has P. A crash inside of a call
-- leaves what it may leave before the call or behind it, since no call has pending less than before it but a sync, which then has
-- changed no byte
pub record LeavesOnly (before now : DiskSide) (P : List ℕ → Type 0) : Type 0 where
  -- the states that the file had before each call of the run
  pub states : List FileState
  pub later : now.past ≡ before.past ++ states
  pub each : AllByRecursion (Leaves P) (states ++ now.file ∷ [])

-- a disk that showed `before` shows `now` after a run, with P at each moment between
pub record RunsTo (before : DiskSide) (shown : Option DiskSide) (P : List ℕ → Type 0) : Type 0 where
  pub now : DiskSide
  pub shows : shown ≡ Some now
  pub leaves : LeavesOnly before now P

-- and the file is as it was: a crash leaves no more than it might have left before
pub record ReadsTo (before : DiskSide) (shown : Option DiskSide) : Type 0 where
  pub now : DiskSide
  pub shows : shown ≡ Some now
  pub same : now.file ≡ before.file
  pub leaves : LeavesOnly before now (MayLeave before.file)

-- a file after a write of n bytes at a place that a crash cuts short: anything in the range, and the same elsewhere
pub record IsTorn (at n : ℕ) (old new : List ℕ) : Type 0 where
  pub before : take at new ≡ take at old
  pub after : drop (at + n) new ≡ drop (at + n) old
  pub no_shorter : length old ≤ length new
  pub no_longer : length new ≤ max (length old) (at + n)

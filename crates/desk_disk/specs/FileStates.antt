-- A file on a disk, and what a crash may leave of it.
use Rattle.std.specs.Prelude.{◌≡◌, ℕ, ◌+◌, ◌<◌, ◌≤◌, ◌⊎◌, List, [], ◌∷◌, ◌++◌, length, take, drop, slice_index}

-- a range of a file: its place and its length
abbrev pub Range : Type 0
Range = ℕ × ℕ

-- a file: the bytes that a read gives, the ranges written since the last sync or the start, the newest first, and the length then
pub record FileState : Type 0 where
  pub bytes : List ℕ
  pub pending : List Range
  pub synced : ℕ

-- a place stands outside of each of these ranges
abbrev pub IsOutside : ℕ → List Range → Type 0
IsOutside i [] = Unit {0}
IsOutside i (range ∷ ranges) = ((i < range.0) ⊎ (range.0 + range.1 ≤ i)) × IsOutside i ranges

-- what a crash may leave: any length from that at the last sync to that of now, and any bytes in the ranges that are pending;
-- all other bytes stay
pub record MayLeave (h : FileState) (c : List ℕ) : Type 0 where
  pub no_shorter : h.synced ≤ length c
  pub no_longer : length c ≤ length h.bytes
  pub outside : (i : ℕ) → i < length c → IsOutside i h.pending → slice_index c i ≡ slice_index h.bytes i

-- nothing is pending
pub record HasNothingPending (h : FileState) : Type 0 where
  pub nothing : h.pending ≡ []
  pub whole : h.synced ≡ length h.bytes

-- bytes written over what stands from a place on, and past the end
abbrev pub put_at : ℕ → List ℕ → List ℕ → List ℕ
put_at at new old = take at old ++ (new ++ drop (at + length new) old)

-- the file after a write of so many bytes at a place, of which these stand
abbrev pub after_write : ℕ → ℕ → List ℕ → FileState → FileState
after_write at room new h = record { bytes = put_at at new h.bytes; pending = (at, room) ∷ h.pending; synced = h.synced }

-- and after a sync
abbrev pub after_sync : FileState → FileState
after_sync h = record { bytes = h.bytes; pending = []; synced = length h.bytes }

-- a disk that shows: its file, and the state that the file had before each call, the first call first. So the clock of its calls is
-- the length of its past
pub record DiskSide : Type 0 where
  pub file : FileState
  pub past : List FileState

-- after a call that leaves this
abbrev pub changed : FileState → DiskSide → DiskSide
changed h d = record { file = h; past = d.past ++ d.file ∷ [] }

-- after a call that changes nothing
abbrev pub stays : DiskSide → DiskSide
stays d = changed d.file d

-- after a write of so many bytes at a place, of which these stand, and after a sync
abbrev pub written : ℕ → ℕ → List ℕ → DiskSide → DiskSide
written at room new d = changed (after_write at room new d.file) d

abbrev pub synced : DiskSide → DiskSide
synced d = changed (after_sync d.file) d

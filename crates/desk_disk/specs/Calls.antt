-- What one call of a disk does to what it shows.
use Rattle.std.specs.Prelude.{◌≡◌, ℕ, ◌≤◌, List, length, take, Option, Result, Ok, Err, IsErrOf}
use Rattle.std.specs.Option.{option_map}
use Rattle.desk_folder.specs.Calls.{Rose}
use Rattle.desk_disk.specs.declared.faults.DiskFault.{DiskFault}
use Rattle.desk_disk.specs.declared.faults.DiskFault.TheVariants.{Failed, Memory}
use Rattle.desk_disk.specs.FileStates.{DiskSide, stays, written, synced}

-- a count of faults over a call or several: it never falls, and rose where the answer is Failed
pub record Counts {T : Type 0} (before now : ℕ) (answer : Result T DiskFault) : Type 0 where
  pub kept : before ≤ now
  pub rose : IsErrOf answer Failed → Rose before now

-- the file stays as it is. After Memory there was no call
abbrev pub Stays : {T : Type 0} → Option DiskSide → Option DiskSide → Result T DiskFault → Type 0
Stays before now (Ok _) = now ≡ option_map stays before
Stays before now (Err Failed) = now ≡ option_map stays before
Stays before now (Err Memory) = now ≡ before

-- the directory becomes this one at Ok, and stays at an error
abbrev pub Names : {T : Type 0} → Option (List ℕ) → Option (List ℕ) → List ℕ → Result T DiskFault → Type 0
Names before now output (Ok _) = now ≡ option_map (λ _. output) before
Names before now output (Err _) = now ≡ before

-- bytes are written at a place: all of them at Ok, a beginning of them at Failed, perhaps nothing, and nothing at Memory
abbrev pub Writes : {T : Type 0} → Option DiskSide → Option DiskSide → ℕ → List ℕ → Result T DiskFault → Type 0
Writes before now at bytes (Ok _) = now ≡ option_map (written at (length bytes) bytes) before
Writes before now at bytes (Err Failed) = (n : ℕ) × (now ≡ option_map (written at (length bytes) (take n bytes)) before)
Writes before now at bytes (Err Memory) = now ≡ before

-- nothing is pending any more at Ok, and what was pending still is at an error
abbrev pub Syncs : {T : Type 0} → Option DiskSide → Option DiskSide → Result T DiskFault → Type 0
Syncs before now (Ok _) = now ≡ option_map synced before
Syncs before now (Err Failed) = now ≡ option_map stays before
Syncs before now (Err Memory) = now ≡ before

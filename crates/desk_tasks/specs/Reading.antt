-- What reading files does to the outside.
use Rattle.std.specs.Prelude.{◌≡◌, ℕ, ◌+◌, ◌<◌, ◌≤◌, false, List, [], Some, IfSome, Result, Ok, Err}
use Rattle.desk_folder.specs.declared.files.File.{File}
use Rattle.desk_folder.specs.declared.files.File.TheVariants as file
use Rattle.desk_folder.specs.Files.{file_number}
use Rattle.desk_folder.specs.Outside.{Outside}
use Rattle.desk_folder.specs.Outputs.{is_among}
use Rattle.file_rows.specs.Limits.{most_bytes, most_journal_bytes}
use Rattle.desk_tasks.specs.declared.refusal.Refusal.{Refusal}

-- a file has been read to its end
abbrev pub IsRead : Outside → Outside → File → Type 0
IsRead before now f = IfSome (before.left f) (λ bytes. now.left f ≡ Some [])

-- the most bytes of a file
abbrev pub byte_limit : File → ℕ
byte_limit file.Journal = most_journal_bytes
byte_limit other = most_bytes

-- a file was asked for its next bytes at most once more than it may have bytes: each answer but the last gave one
abbrev pub HasFewTurns : Outside → Outside → File → Type 0
HasFewTurns before now f = now.turns f ≤ before.turns f + (byte_limit f + 1)

-- a file was not asked for its bytes, so nothing of it was read and no reading of it failed
pub record IsUnread (before now : Outside) (f : File) : Type 0 where
  pub left : now.left f ≡ before.left f
  pub turns : now.turns f ≡ before.turns f
  pub faults : now.next_faults f ≡ before.next_faults f

-- of these files alone something was read, in few turns, and nothing else is other than before
pub record ReadsAmong (files : List File) (before now : Outside) : Type 0 where
  pub unread : (f : File) → is_among f files ≡ false → IsUnread before now f
  pub kept : (f : File) → before.next_faults f ≤ now.next_faults f
  pub few : (f : File) → HasFewTurns before now f
  pub directories : now.directories ≡ before.directories
  pub written : (f : File) → now.written f ≡ before.written f
  pub place_faults : now.place_faults ≡ before.place_faults
  pub put_faults : (f : File) → now.put_faults f ≡ before.put_faults f

-- no file that comes after this one was read
abbrev pub StopsAt : File → Outside → Outside → Type 0
StopsAt f before now = (g : File) → file_number f < file_number g → IsUnread before now g

-- no grammar refuses a file that stands before this one
abbrev pub StandsFirst : {X : Type 0} → File → Result X Refusal → Type 0
StandsFirst f (Ok x) = Unit {0}
StandsFirst f (Err r) = file_number f ≤ file_number r.file

-- What a folder and a sink show of themselves. `None` says that it isn't shown, as by the host's own.
use Rattle.std.specs.Prelude.{◌≡◌, ◌≢◌, ℕ, List, Option}
use Rattle.desk_folder.specs.declared.files.File.{File}

-- the two directories last named; before the first, both names are empty
pub record Directories : Type 0 where
  pub input : List ℕ
  pub output : List ℕ

-- what stands outside: the directories last named, the bytes left to read and the bytes written so far of each
-- file, how often each file was asked for its next bytes, and how many calls failed, of `place`, of `next` by file and
-- of `put` by file
pub record Outside : Type 0 where
  pub directories : Option Directories
  pub left : File → Option (List ℕ)
  pub written : File → Option (List ℕ)
  pub turns : File → ℕ
  pub place_faults : ℕ
  pub next_faults : File → ℕ
  pub put_faults : File → ℕ

-- the bytes written to a sink so far, and how many calls of `put` failed
pub record SinkSide : Type 0 where
  pub written : Option (List ℕ)
  pub faults : ℕ

-- now is what before was, but for what is left of this file and its counts of turns and of failed reads
pub record ReadsOnly (file : File) (before now : Outside) : Type 0 where
  pub directories : now.directories ≡ before.directories
  pub left : (f : File) → f ≢ file → now.left f ≡ before.left f
  pub written : (f : File) → now.written f ≡ before.written f
  pub turns : (f : File) → f ≢ file → now.turns f ≡ before.turns f
  pub place_faults : now.place_faults ≡ before.place_faults
  pub next_faults : (f : File) → f ≢ file → now.next_faults f ≡ before.next_faults f
  pub put_faults : (f : File) → now.put_faults f ≡ before.put_faults f

-- now is what before was, but for what is written of this file and the count of its failed writes
pub record WritesOnly (file : File) (before now : Outside) : Type 0 where
  pub directories : now.directories ≡ before.directories
  pub left : (f : File) → now.left f ≡ before.left f
  pub written : (f : File) → f ≢ file → now.written f ≡ before.written f
  pub turns : (f : File) → now.turns f ≡ before.turns f
  pub place_faults : now.place_faults ≡ before.place_faults
  pub next_faults : (f : File) → now.next_faults f ≡ before.next_faults f
  pub put_faults : (f : File) → f ≢ file → now.put_faults f ≡ before.put_faults f

-- now is what before was, but for the directories and the count of failed namings
pub record PlacesOnly (before now : Outside) : Type 0 where
  pub left : (f : File) → now.left f ≡ before.left f
  pub written : (f : File) → now.written f ≡ before.written f
  pub turns : (f : File) → now.turns f ≡ before.turns f
  pub next_faults : (f : File) → now.next_faults f ≡ before.next_faults f
  pub put_faults : (f : File) → now.put_faults f ≡ before.put_faults f

-- What reading a file to its end, and putting a whole text, do to what stands outside.
use Rattle.std.specs.Prelude.{◌≡◌, ℕ, ◌+◌, ◌<◌, ◌≤◌, List, [], length, ⊤, Option, Some, None, Result, Ok, Err, IfOk, IfSome, IsErrOf}
use Rattle.std.specs.declared.alloc.Global.{Global}
use Rattle.std.specs.declared.vec.Vec.{Vec}
use Rattle.std.specs.Io.KnownBytes.{Appends, Consumes}
use Rattle.desk_folder.specs.declared.files.File.{File}
use Rattle.desk_folder.specs.declared.faults.FolderFault.{FolderFault}
use Rattle.desk_folder.specs.Outside.{Outside, SinkSide, ReadsOnly, WritesOnly}
use Rattle.desk_folder.specs.Calls.{AppendsPrefix, Counts, Rose}
use Rattle.desk_folder.specs.declared.reads.ReadEnd.{ReadEnd}
use Rattle.desk_folder.specs.declared.reads.ReadEnd.TheVariants.{Size, Failed}

-- the bytes are all that was left of the file, where that is shown, and now nothing is left
abbrev pub IsWhole : Option (List ℕ) → Option (List ℕ) → List ℕ → Type 0
IsWhole None now bytes = ⊤
IsWhole (Some left) now bytes = (bytes ≡ left) × (now ≡ Some [])

-- some of the bytes that were left at the front, perhaps none, are left no more, where that is shown
abbrev pub ConsumesSome : Option (List ℕ) → Option (List ℕ) → Type 0
ConsumesSome before now = (taken : List ℕ) × Consumes before now taken

-- a file is read to its end: Ok gives all its bytes, no more than the limit; Size says that there are more, where
-- shown; Failed says that a read of this file failed; and nothing else changes. Each turn but the last gives a byte of those
-- within the limit, so there is at most one turn more than the limit has bytes
pub record ReadsFile (before now : Outside) (file : File) (limit : ℕ) (answer : Result (Vec ℕ Global) ReadEnd) : Type 0 where
  pub whole : IfOk answer (λ v. IsWhole (before.left file) (now.left file) v.items)
  pub fits : IfOk answer (λ v. length v.items ≤ limit)
  pub size : IsErrOf answer Size → IfSome (before.left file) (λ bytes. limit < length bytes)
  pub failed : IsErrOf answer Failed → Rose (before.next_faults file) (now.next_faults file)
  pub kept : before.next_faults file ≤ now.next_faults file
  pub turns : now.turns file ≤ before.turns file + (limit + 1)
  pub left : ConsumesSome (before.left file) (now.left file)
  pub others : ReadsOnly file before now

-- known bytes grow by the whole text at Ok, and by a prefix of it, perhaps by nothing, at an error
abbrev pub TextAppends : {T : Type 0} → Option (List ℕ) → Option (List ℕ) → List ℕ → Result T FolderFault → Type 0
TextAppends before now text (Ok _) = Appends before now text
TextAppends before now text (Err _) = AppendsPrefix before now text

-- a text is put at the end of a file, and nothing else changes
pub record PutsText {T : Type 0} (before now : Outside) (file : File) (text : List ℕ) (answer : Result T FolderFault) : Type 0 where
  pub bytes : TextAppends (before.written file) (now.written file) text answer
  pub faults : Counts (before.put_faults file) (now.put_faults file) answer
  pub others : WritesOnly file before now

-- the same of a sink
pub record PutsReport {T : Type 0} (before now : SinkSide) (text : List ℕ) (answer : Result T FolderFault) : Type 0 where
  pub bytes : TextAppends before.written now.written text answer
  pub faults : Counts before.faults now.faults answer

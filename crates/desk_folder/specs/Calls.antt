-- What one call of a folder or a sink does to what stands outside.
use Rattle.std.specs.Prelude.{◌≡◌, ℕ, ◌+◌, ◌-◌, ◌^◌, ◌<◌, ◌≤◌, min, List, length, take, ⊤, Option, Some, None, Result, Ok, Err, IfOk, IsErrOf}
use Rattle.std.specs.Io.{ReadsAtMost}
use Rattle.std.specs.Io.KnownBytes.{Appends, Keeps, ReadConsumes}
use Rattle.desk_folder.specs.declared.files.File.{File}
use Rattle.desk_folder.specs.declared.faults.FolderFault.{FolderFault}
use Rattle.desk_folder.specs.declared.faults.FolderFault.TheVariants.{Failed, Memory}
use Rattle.desk_folder.specs.Outside.{Outside, SinkSide, Directories, ReadsOnly, WritesOnly, PlacesOnly}

-- a count of faults rose: it is higher by one or more, or stands at the last value of a counter of 64 bits
abbrev pub Rose : ℕ → ℕ → Type 0
Rose before now = min (before + 1) (2 ^ 64 - 1) ≤ now

-- a count of turns over one: it is higher by one, or stands at the last value of a counter of 64 bits
abbrev pub TakesTurn : ℕ → ℕ → Type 0
TakesTurn before now = now ≡ min (before + 1) (2 ^ 64 - 1)

-- a count of faults over a call or several: it never falls, and rose where the answer is Failed
pub record Counts {T : Type 0} (before now : ℕ) (answer : Result T FolderFault) : Type 0 where
  pub kept : before ≤ now
  pub rose : IsErrOf answer Failed → Rose before now

-- known directories become these at Ok, and stay at an error
abbrev pub Names : {T : Type 0} → Option Directories → Option Directories → Directories → Result T FolderFault → Type 0
Names None now these answer = ⊤
Names (Some was) now these (Ok _) = now ≡ Some these
Names (Some was) now these (Err _) = now ≡ Some was

-- known bytes grow by a prefix of the piece, perhaps by nothing
abbrev pub AppendsPrefix : Option (List ℕ) → Option (List ℕ) → List ℕ → Type 0
AppendsPrefix before now piece = (n : ℕ) × Appends before now (take n piece)

-- known bytes grow by the first n bytes of the piece at Ok n, by a prefix of it at Failed, and by nothing at Memory
abbrev pub PutAppends : Option (List ℕ) → Option (List ℕ) → List ℕ → Result ℕ FolderFault → Type 0
PutAppends before now piece (Ok n) = Appends before now (take n piece)
PutAppends before now piece (Err Failed) = AppendsPrefix before now piece
PutAppends before now piece (Err Memory) = Keeps before now

-- `place` names the two directories, and changes nothing else but its count of faults
pub record Places (before now : Outside) (input output : List ℕ) (answer : Result (Unit {0}) FolderFault) : Type 0 where
  pub names : Names before.directories now.directories (record { input = input; output = output }) answer
  pub faults : Counts before.place_faults now.place_faults answer
  pub others : PlacesOnly before now

-- `next` takes the first bytes left of the file, none only at its end, and nothing at an error; whatever it answers, it is a turn
pub record Takes (before now : Outside) (file : File) (buffer : List ℕ) (answer : Result ℕ FolderFault) : Type 0 where
  pub fits : ReadsAtMost answer buffer
  pub bytes : ReadConsumes (before.left file) (now.left file) answer buffer
  pub turn : TakesTurn (before.turns file) (now.turns file)
  pub faults : Counts (before.next_faults file) (now.next_faults file) answer
  pub others : ReadsOnly file before now

-- `put` writes a prefix of the piece, of at least one byte at Ok
pub record Puts (before now : Outside) (file : File) (piece : List ℕ) (answer : Result ℕ FolderFault) : Type 0 where
  pub count : IfOk answer (λ n. (0 < n) × (n ≤ length piece))
  pub bytes : PutAppends (before.written file) (now.written file) piece answer
  pub faults : Counts (before.put_faults file) (now.put_faults file) answer
  pub others : WritesOnly file before now

-- the same of a sink
pub record PutsToSink (before now : SinkSide) (piece : List ℕ) (answer : Result ℕ FolderFault) : Type 0 where
  pub count : IfOk answer (λ n. (0 < n) × (n ≤ length piece))
  pub bytes : PutAppends before.written now.written piece answer
  pub faults : Counts before.faults now.faults answer

-- a count over one call, exactly: it rises by one where the call fails, up to its last value, and else stands still
abbrev pub CountsFailure : {T : Type 0} → ℕ → ℕ → Result T FolderFault → Type 0
CountsFailure before now (Ok _) = now ≡ before
CountsFailure before now (Err Failed) = now ≡ min (before + 1) (2 ^ 64 - 1)
CountsFailure before now (Err Memory) = now ≡ before

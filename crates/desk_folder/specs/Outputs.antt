-- What putting several texts, each into a file of its own, does to what stands outside.
use Rattle.std.specs.Prelude.{◌≡◌, ◌≤◌, ◌⊎◌, ◌==◌, ℕ, Bool, true, false, not, ◌&&◌, ◌||◌, List, [], ◌∷◌, Result, Ok, Err, IfErr}
use Rattle.std.specs.Io.KnownBytes.{Appends, Keeps}
use Rattle.desk_folder.specs.declared.files.File.{File}
use Rattle.desk_folder.specs.Files.{file_number}
use Rattle.desk_folder.specs.Outside.{Outside}
use Rattle.desk_folder.specs.Calls.{AppendsPrefix, Rose}
use Rattle.desk_folder.specs.declared.outputs.WriteFault.{WriteFault}
use Rattle.desk_folder.specs.declared.outputs.WriteFault.TheVariants as fault

-- a file is one of these
abbrev pub is_among : File → List File → Bool
is_among f [] = false
is_among f (g ∷ others) = file_number g == file_number f || is_among f others

-- a file and the text that is put into it
abbrev pub FileText : Type 0
FileText = File × List ℕ

-- the files of texts
abbrev pub files_of : List FileText → List File
files_of [] = []
files_of (t ∷ others) = t.0 ∷ files_of others

-- no file stands twice
abbrev pub are_different : List File → Bool
are_different [] = true
are_different (f ∷ others) = not (is_among f others) && are_different others

-- a file has got nothing, a beginning of its text, or all of it
abbrev pub HasNothing : FileText → Outside → Outside → Type 0
HasNothing t before now = Keeps (before.written t.0) (now.written t.0)

abbrev pub HasBeginning : FileText → Outside → Outside → Type 0
HasBeginning t before now = AppendsPrefix (before.written t.0) (now.written t.0) t.1

abbrev pub HasAll : FileText → Outside → Outside → Type 0
HasAll t before now = Appends (before.written t.0) (now.written t.0) t.1

-- none of these has got anything
abbrev pub HaveNothing : List FileText → Outside → Outside → Type 0
HaveNothing [] before now = Unit {0}
HaveNothing (t ∷ others) before now = HasNothing t before now × HaveNothing others before now

-- the texts in their order, and then what comes after them: they are whole up to one, of that one there is a beginning, and
-- of those after it nothing, and so much is said of its file; or all of them are whole, and so much is said of the end
abbrev pub ArePut : (File → Type 0) → Type 0 → List FileText → Outside → Outside → Type 0
ArePut SaidOf AtEnd [] before now = AtEnd
ArePut SaidOf AtEnd (t ∷ others) before now =
    (HasAll t before now × ArePut SaidOf AtEnd others before now)
    ⊎ (HasBeginning t before now × HaveNothing others before now × SaidOf t.0)

-- how far texts were put, by how that ended: all are whole, or the one of this file is not, or any one
abbrev pub ArePutBy : List FileText → Outside → Outside → Result (Unit {0}) WriteFault → Type 0
ArePutBy texts before now (Ok done) = ArePut (λ f. ⊥) (Unit {0}) texts before now
ArePutBy texts before now (Err (fault.Failed f)) = ArePut (λ g. g ≡ f) ⊥ texts before now
ArePutBy texts before now (Err fault.Memory) = ArePut (λ g. Unit {0}) ⊥ texts before now

-- a text of these files could not be put only where the count of failed writes of its file rose
abbrev pub HasWriteCause : List File → Outside → Outside → WriteFault → Type 0
HasWriteCause files before now (fault.Failed f) = (is_among f files ≡ true) × Rose (before.put_faults f) (now.put_faults f)
HasWriteCause files before now fault.Memory = Unit {0}

-- nothing of a file was written, and no writing of it failed
pub record IsUnput (before now : Outside) (f : File) : Type 0 where
  pub written : now.written f ≡ before.written f
  pub faults : now.put_faults f ≡ before.put_faults f

-- into these files alone something was put, and nothing else is other than before
pub record WritesAmong (files : List File) (before now : Outside) : Type 0 where
  pub unput : (f : File) → is_among f files ≡ false → IsUnput before now f
  pub kept : (f : File) → before.put_faults f ≤ now.put_faults f
  pub directories : now.directories ≡ before.directories
  pub left : (f : File) → now.left f ≡ before.left f
  pub turns : (f : File) → now.turns f ≡ before.turns f
  pub place_faults : now.place_faults ≡ before.place_faults
  pub next_faults : (f : File) → now.next_faults f ≡ before.next_faults f

-- the texts are put one after another
pub record PutsTexts (before now : Outside) (texts : List FileText) (answer : Result (Unit {0}) WriteFault) : Type 0 where
  pub put : ArePutBy texts before now answer
  pub cause : IfErr answer (HasWriteCause (files_of texts) before now)
  pub only : WritesAmong (files_of texts) before now

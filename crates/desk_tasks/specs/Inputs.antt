-- The bytes of files that are read.
use Rattle.std.specs.Prelude.{◌≡◌, ℕ, true, List, Some}
use Rattle.desk_folder.specs.declared.files.File.{File}
use Rattle.desk_folder.specs.Outside.{Outside}
use Rattle.desk_folder.specs.Outputs.{is_among}

-- the bytes of each file
abbrev pub Inputs : Type 0
Inputs = File → List ℕ

-- the folder shows the bytes of these files
abbrev pub Tells : List File → Outside → Inputs → Type 0
Tells files outside x = (f : File) → is_among f files ≡ true → outside.left f ≡ Some (x f)

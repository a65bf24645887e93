-- Lists of files with their bytes, and texts by number.
use Rattle.std.specs.Prelude.{ℕ, ◌==◌, List, [], ◌∷◌, map, slice_index_or, if◌then◌else◌}
use Rattle.std.specs.declared.alloc.Global.{Global}
use Rattle.std.specs.declared.vec.Vec.{Vec}
use Rattle.desk_folder.specs.Files.{file_number}
use Rattle.desk_folder.specs.declared.files.File.{File}

-- the entries with their bytes as lists
abbrev pub named_texts : List (File × Vec ℕ Global) → List (File × List ℕ)
named_texts entries = map (λ e. (e.0, e.1.items)) entries

-- the bytes of the first entry of this file, or none
abbrev pub entry_of : File → List (File × List ℕ) → List ℕ
entry_of file [] = []
entry_of file (e ∷ es) = if file_number e.0 == file_number file then e.1 else entry_of file es

-- the texts as lists
abbrev pub texts_of : List (Vec ℕ Global) → List (List ℕ)
texts_of texts = map (λ text. text.items) texts

-- the text at this place, or none
abbrev pub text_at : List (List ℕ) → ℕ → List ℕ
text_at texts k = slice_index_or texts k []

-- The words of the program.
use Rattle.std.specs.Prelude.{ℕ, Bool, false, not, ◌&&◌, ◌==◌, List, [], ◌∷◌, Option, Some, None, if◌then◌else◌}
use Rattle.desk_folder.specs.Outside.{Directories}

-- a directory: a word that is not empty and does not begin with a minus sign
abbrev pub is_directory : List ℕ → Bool
is_directory [] = false
is_directory (byte ∷ bytes) = not (byte == 45)

-- the directories of the input and of the plan: two words, and nothing else
abbrev pub directories : List (List ℕ) → Option Directories
directories (input ∷ output ∷ []) = if is_directory input && is_directory output then Some (record { input = input; output = output }) else None
directories [] = None
directories (input ∷ []) = None
directories (input ∷ output ∷ more ∷ words) = None

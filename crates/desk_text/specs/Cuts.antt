-- Cuts at a byte.
use Rattle.std.specs.Prelude.{ℕ, Bool, ◌+◌, List, [], ◌∷◌, take, drop, Option, option_map, position, ◌==◌, if◌then◌else◌}
use Rattle.std.specs.List.{list_all}
use Rattle.desk_text.specs.Lines.{is_blank, is_last, lines_from}

-- the bytes before the first one that passes the test, and those after it
abbrev pub cut_where : (ℕ → Bool) → List ℕ → Option (List ℕ × List ℕ)
cut_where test bytes = option_map (λ n. (take n bytes, drop (n + 1) bytes)) (position test bytes)

-- the bytes before the first such byte, and those after it
abbrev pub cut : ℕ → List ℕ → Option (List ℕ × List ℕ)
cut at bytes = cut_where (λ byte. byte == at) bytes

-- the lines of a text whose first line and the rest after it are these: none from a line that begins with '#' on, and none that is blank
abbrev pub line_then : ℕ → List ℕ → List ℕ → List (ℕ × List ℕ)
line_then n line rest = if is_last line then [] else (if list_all is_blank line then lines_from (n + 1) rest else (n, line) ∷ lines_from (n + 1) rest)

-- The lines of a text.
use Rattle.std.specs.Prelude.{ℕ, ◌+◌, ◌==◌, List, length, position}
use Rattle.std.specs.Option.{option_map_or}

-- the length of the first line with its line feed, or of the text where it has none
abbrev pub first_line_length : List ℕ → ℕ
first_line_length text = option_map_or (λ at. at + 1) (position (λ b. b == 10) text) (length text)

-- Lines and fields of a text.
use Rattle.std.specs.Prelude.{ℕ, Bool, false, not, ◌||◌, ◌&&◌, List, [], ◌∷◌, length, map, filter, take_while, nat_lt, nat_le, ◌==◌}
use Rattle.std.specs.List.{slice_split, enumerate_from}
use Rattle.std.specs.Str.Lines.{strip_carriage_return}
use Rattle.file_rows.specs.Bytes.{space, tab, line_feed, hash, first_visible, last_visible}

-- space and tab
abbrev pub is_blank : ℕ → Bool
is_blank byte = (byte == space) || (byte == tab)

-- the bytes of a line: blanks, and those that can be seen, from ! to ~
abbrev pub is_text : ℕ → Bool
is_text byte = is_blank byte || (nat_le first_visible byte && nat_le byte last_visible)

-- whether there is a byte
abbrev pub is_full : List ℕ → Bool
is_full bytes = nat_lt 0 (length bytes)

-- the fields of a line: what stands between blanks
unfoldable pub fields : List ℕ → List (List ℕ)
fields line = filter is_full (slice_split is_blank line)

-- whether the first byte is '#'
abbrev pub is_last : List ℕ → Bool
is_last (byte ∷ bytes) = byte == hash
is_last [] = false

-- the lines: what stands between LFs, each without the CR at its end, up to the first that begins with '#'
abbrev pub all_lines : List ℕ → List (List ℕ)
all_lines bytes = take_while (λ line. not (is_last line)) (map strip_carriage_return (slice_split (λ byte. byte == line_feed) bytes))

-- the lines that have fields, each with its number, counted from n
unfoldable pub lines_from : ℕ → List ℕ → List (ℕ × List ℕ)
lines_from n bytes = filter (λ line. nat_lt 0 (length (fields line.1))) (enumerate_from n (all_lines bytes))

-- the lines of a text that have fields, each with its number, counted from 1
abbrev pub text_lines : List ℕ → List (ℕ × List ℕ)
text_lines bytes = lines_from 1 bytes

-- Text as a terminal shows it.
use Rattle.std.specs.Prelude.{◌≡◌, ℕ, ◌+◌, ◌/◌, ◌%◌, ◌≤◌, ◌⊎◌, Bool, not, ◌&&◌, ◌==◌, nat_le, nat_lt, List, [], ◌∷◌, ◌++◌, if◌then◌else◌}
use Rattle.std.specs.List.{flat_map}

-- the line feed
abbrev pub line_feed : ℕ
line_feed = 10

-- a byte that a terminal prints as it is, from the space to ~, and that stands for itself: no backslash
abbrev pub is_plain : ℕ → Bool
is_plain byte = (nat_le 32 byte && nat_le byte 126) && not (byte == 92)

-- a digit of a number below 16: 0 to 9, a to f
abbrev pub hex_digit : ℕ → ℕ
hex_digit n = if nat_lt n 10 then 48 + n else 87 + n

-- a byte as it is shown: a plain one as it is, and every other as \x and two digits
abbrev pub shown_byte : ℕ → List ℕ
shown_byte byte = if is_plain byte then byte ∷ [] else 92 ∷ 120 ∷ hex_digit (byte / 16) ∷ hex_digit (byte % 16) ∷ []

-- bytes as they are shown
abbrev pub shown : List ℕ → List ℕ
shown bytes = flat_map shown_byte bytes

-- a line as it is shown, with its end
abbrev pub shown_line : List ℕ → List ℕ
shown_line bytes = shown bytes ++ line_feed ∷ []

-- what may reach a terminal: the line feed, and what is printed as it is
abbrev pub IsShown : ℕ → Type 0
IsShown byte = (byte ≡ line_feed) ⊎ ((32 ≤ byte) × (byte ≤ 126))

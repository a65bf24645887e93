-- Bytes that can be seen.
use Rattle.std.specs.Prelude.{ℕ, ◌≤◌, List, All}
use Rattle.file_rows.specs.Bytes.{first_visible, last_visible}

-- the bytes of a name can be seen: from ! to ~
abbrev pub IsSeen : List ℕ → Type 0
IsSeen name = All (λ byte. (first_visible ≤ byte) × (byte ≤ last_visible)) name

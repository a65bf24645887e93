-- Whether the bytes of fields can be seen.
use Rattle.std.specs.Prelude.{ℕ, Bool, ◌&&◌, List, nat_le}
use Rattle.std.specs.List.{list_all}
use Rattle.file_rows.specs.Bytes.{first_visible, last_visible}

-- whether each byte can be seen: it is from ! to ~
abbrev pub is_seen : List ℕ → Bool
is_seen bytes = list_all (λ byte. nat_le first_visible byte && nat_le byte last_visible) bytes

-- whether all fields can be seen
abbrev pub are_seen : List (List ℕ) → Bool
are_seen fields = list_all is_seen fields

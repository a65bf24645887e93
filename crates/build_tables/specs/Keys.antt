-- What rows are found by.
use Rattle.std.specs.Prelude.{◌≡◌, ℕ, Bool, false, ◌&&◌, ◌==◌, List, position, Option, bytes_eq, if◌then◌else◌}
use Rattle.std.specs.List.{AllPairs}

-- a flight, an aircraft or an airport by its name; a rotation by its flight and its day; a distance by the two
-- airports; a reservation by its name and whether it is inbound
pub data Key : Type 0 where
  by_name : List ℕ → Key
  on_day : List ℕ → ℕ → Key
  between : List ℕ → List ℕ → Key
  by_reservation : List ℕ → Bool → Key

-- the number of a reservation's type: 0 for outbound, 1 for inbound
abbrev pub type_number : Bool → ℕ
type_number inbound = if inbound then 1 else 0

abbrev pub is_key : Key → Key → Bool
is_key (by_name a) (by_name b) = bytes_eq a b
is_key (on_day flight day) (on_day other date) = bytes_eq flight other && (day == date)
is_key (between origin dest) (between from to) = bytes_eq origin from && bytes_eq dest to
is_key (by_reservation name inbound) (by_reservation other back) = bytes_eq name other && (type_number inbound == type_number back)
is_key a b = false

-- no two rows have one key
abbrev pub AreApart : {Row : Type 0} → (Row → Key) → List Row → Type 0
AreApart key_of rows = AllPairs (λ before row. is_key (key_of row) (key_of before) ≡ false) rows

-- the place of the first row with this key
abbrev pub key_place : {Row : Type 0} → (Row → Key) → List Row → Key → Option ℕ
key_place key_of rows key = position (λ row. is_key key (key_of row)) rows

-- What a table of places gives for a key.
use Rattle.std.specs.Prelude.{◌≡◌, ℕ, List, Option, [], ◌∷◌, ◌++◌}
use Rattle.std.specs.Hash.{HashWrites, bool, u32}
use Rattle.indexmap.specs.IndexMap.{get_by}
use Rattle.build_tables.specs.declared.places.Key.{Key as Borrowed}
use Rattle.build_tables.specs.declared.places.Key.TheVariants as borrowed
use Rattle.build_tables.specs.declared.places.RowPlaces.{RowPlaces}
use Rattle.build_tables.specs.Keys.{Key, by_name, on_day, between, by_reservation, is_key, key_place}

-- the key that a borrowed one spells
abbrev pub key_of_borrowed : Borrowed → Key
key_of_borrowed (borrowed.Named name) = by_name name.0.now
key_of_borrowed (borrowed.OnDay flight day) = on_day flight.0.now day
key_of_borrowed (borrowed.Between origin dest) = between origin.0.now dest.0.now
key_of_borrowed (borrowed.Booked name inbound) = by_reservation name.0.now inbound

-- what is hashed of a key: its names, and the day or the direction beside them
abbrev pub hash_input : Borrowed → HashWrites
hash_input (borrowed.Named name) = name.0.now ∷ []
hash_input (borrowed.OnDay flight day) = (flight.0.now ∷ []) ++ u32 day
hash_input (borrowed.Between origin dest) = (origin.0.now ∷ []) ++ (dest.0.now ∷ [])
hash_input (borrowed.Booked name inbound) = (name.0.now ∷ []) ++ bool inbound

-- the place that is kept for this key
abbrev pub place_in : RowPlaces → Key → Option ℕ
place_in p key = get_by (λ k. is_key key (key_of_borrowed k)) p.places

-- these are the places of these rows by their keys
abbrev pub ArePlacesOf : {Row : Type 0} → (Row → Key) → List Row → RowPlaces → Type 0
ArePlacesOf key_of rows p = (key : Key) → place_in p key ≡ key_place key_of rows key

-- Text on a page of HTML: what bytes stand as there, so that they are read and do nothing.
use Rattle.std.specs.Prelude.{◌≡◌, ℕ, ◌⊎◌, Bool, true, not, ◌&&◌, ◌||◌, ◌==◌, nat_le, List, [], ◌∷◌, codes, if◌then◌else◌}
use Rattle.std.specs.List.{flat_map}

-- the five bytes that begin or end something in HTML: < > & and the two quote marks
abbrev pub is_markup : ℕ → Bool
is_markup byte = byte == 60 || (byte == 62 || (byte == 38 || (byte == 34 || byte == 39)))

-- a byte from the space to ~
abbrev pub is_printed : ℕ → Bool
is_printed byte = nat_le 32 byte && nat_le byte 126

-- what a byte stands as: one of the five as its entity, any other from the space to ~ as itself, and all else as a question mark
abbrev pub entity : ℕ → List ℕ
entity byte =
    if byte == 60 then codes "&lt;" else
    (if byte == 62 then codes "&gt;" else
    (if byte == 38 then codes "&amp;" else
    (if byte == 34 then codes "&quot;" else
    (if byte == 39 then codes "&#39;" else
    (if is_printed byte then byte ∷ [] else codes "?")))))

-- bytes as they stand on a page
abbrev pub escaped : List ℕ → List ℕ
escaped bytes = flat_map entity bytes

-- ---- in words

-- one of the five entities
abbrev pub IsEntity : List ℕ → Type 0
IsEntity piece = (piece ≡ codes "&lt;") ⊎ ((piece ≡ codes "&gt;") ⊎ ((piece ≡ codes "&amp;") ⊎ ((piece ≡ codes "&quot;") ⊎ (piece ≡ codes "&#39;"))))

-- a byte that stands for itself: it can be printed, and is none of the five
abbrev pub stands_for_itself : ℕ → Bool
stands_for_itself byte = is_printed byte && not (is_markup byte)

-- a piece of a text: an entity, or a byte that stands for itself
abbrev pub IsPiece : List ℕ → Type 0
IsPiece piece = IsEntity piece ⊎ ((byte : ℕ) × (piece ≡ byte ∷ []) × (stands_for_itself byte ≡ true))

abbrev pub ArePieces : List (List ℕ) → Type 0
ArePieces [] = Unit {0}
ArePieces (piece ∷ pieces) = IsPiece piece × ArePieces pieces

-- a text is pieces one after another: none of the five bytes is in it but as a part of an entity
abbrev pub IsText : List ℕ → Type 0
IsText text = (pieces : List (List ℕ)) × ArePieces pieces × (text ≡ flat_map (λ piece. piece) pieces)

-- a byte that is neither < nor > nor a quote mark
abbrev pub is_harmless : ℕ → Bool
is_harmless byte = not (byte == 60 || (byte == 62 || (byte == 34 || byte == 39)))

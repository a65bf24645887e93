-- Bytes from 0x20 to 0x7e may stand in a text.
use Rattle.std.proofs.Common.{◌≡◌, ℕ, ◌≤◌, inl, inr, true, List, [], ◌∷◌, refl, arith}
use Rattle.std.specs.List.{list_all}
use Rattle.std.proofs.lemmas.Bool.{and_parts, and_from, le-leb, leb-true, eq-eqb, or_left, or_right, cases_eq}
use Rattle.desk_text.specs.Lines.{is_blank, is_text}
use Rattle.comma_rows.specs.Records.{is_printed}

byte_is_text : (b : ℕ) → 32 ≤ b → b ≤ 126 → is_text b ≡ true
byte_is_text b low high = elim (cases_eq b 32) [
  | inl space ↦ or_left _ _ (or_left _ _ (eq-eqb b 32 space))
  | inr other ↦ or_right (is_blank b) _ (and_from _ _ (le-leb 33 b (grind (arith, other))) (le-leb b 126 high))
]

pub text_if_printed : (bytes : List ℕ) → list_all is_printed bytes ≡ true → list_all is_text bytes ≡ true
text_if_printed [] h = refl
text_if_printed (b ∷ bytes) h =
    let both = and_parts _ _ h in
    let range = and_parts _ _ both.0 in
    and_from _ _ (byte_is_text b (leb-true 32 b range.0) (leb-true b 126 range.1)) (text_if_printed bytes both.1)

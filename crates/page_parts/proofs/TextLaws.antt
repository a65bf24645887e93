-- Escaped text marks nothing up.
use Rattle.std.proofs.Common.{◌≡◌, ℕ, inl, inr, true, false, Bool, List, [], ◌∷◌, ◌++◌, refl, ap, ◌∙◌}
use Rattle.std.specs.Prelude.{◌==◌, ◌&&◌}
use Rattle.std.specs.List.{list_all}
use Rattle.std.proofs.lemmas.List.Folds.{list_all-append}
use Rattle.page_parts.specs.Escaped.{is_printed, entity, escaped, IsPiece, IsText, is_harmless}

-- ---- one byte, by its tests

pub by_tests : (byte : ℕ) (less greater amp quot apos printed : Bool) →
    byte == 60 ≡ less → byte == 62 ≡ greater → byte == 38 ≡ amp → byte == 34 ≡ quot → byte == 39 ≡ apos → is_printed byte ≡ printed →
    IsPiece (entity byte) × (list_all is_harmless (entity byte) ≡ true)
by_tests byte true greater amp quot apos printed l g a q s p = rw l (inl (inl refl), refl)
by_tests byte false true amp quot apos printed l g a q s p = rw (l, g) (inl (inr (inl refl)), refl)
by_tests byte false false true quot apos printed l g a q s p = rw (l, g, a) (inl (inr (inr (inl refl))), refl)
by_tests byte false false false true apos printed l g a q s p = rw (l, g, a, q) (inl (inr (inr (inr (inl refl)))), refl)
by_tests byte false false false false true printed l g a q s p = rw (l, g, a, q, s) (inl (inr (inr (inr (inr refl)))), refl)
by_tests byte false false false false false true l g a q s p = rw (l, g, a, q, s, p) (inr (byte, refl, rw (l, g, a, q, s, p) refl), rw (l, g, q, s) refl)
by_tests byte false false false false false false l g a q s p = rw (l, g, a, q, s, p) (inr (63, refl, refl), refl)

abbrev one : (byte : ℕ) → IsPiece (entity byte) × (list_all is_harmless (entity byte) ≡ true)
one byte = by_tests byte (byte == 60) (byte == 62) (byte == 38) (byte == 34) (byte == 39) (is_printed byte) refl refl refl refl refl refl

-- ---- all bytes

pub text_of : (bytes : List ℕ) → IsText (escaped bytes)
text_of [] = ([], tt, refl)
text_of (byte ∷ bytes) =
    let rest = text_of bytes in
    (entity byte ∷ rest.0, ((one byte).0, rest.1), ap (λ text. entity byte ++ text) rest.2)

pub harmless : (bytes : List ℕ) → list_all is_harmless (escaped bytes) ≡ true
harmless [] = refl
harmless (byte ∷ bytes) = list_all-append is_harmless (entity byte) (escaped bytes) ∙ ap (λ b. b && list_all is_harmless (escaped bytes)) (one byte).1 ∙ harmless bytes

-- Texts of one line or more for each number.
use Rattle.std.proofs.Common.{◌≡◌, ℕ, suc, ◌+◌, List, [], ◌∷◌, ◌++◌, arith, ap, sym, ◌∙◌}
use Rattle.std.specs.List.{flat_map}
use Rattle.std.proofs.lemmas.List.{flat_map_more}
use Rattle.output_texts.specs.Draws.{numbers}

flat_map_next : {X : Type 0} (f : ℕ → List X) (n : ℕ) → flat_map f (numbers (n + 1)) ≡ flat_map f (numbers n) ++ f n
flat_map_next f n = ap (λ k. flat_map f (numbers k)) (let e : n + 1 ≡ suc n = omega arith in e) ∙ sym (flat_map_more f [] (numbers n) n)

-- a text with the lines of one number more
pub text_next : {X : Type 0} (f : ℕ → List X) (n : ℕ) (before after piece : List X) → before ≡ flat_map f (numbers n) → after ≡ before ++ piece → piece ≡ f n → after ≡ flat_map f (numbers (n + 1))
text_next f n before after piece is more one = more ∙ ap (λ t. t ++ piece) is ∙ ap (λ t. flat_map f (numbers n) ++ t) one ∙ sym (flat_map_next f n)

-- Those that are marked are given a number, one after another.
use Rattle.std.proofs.Common.{◌≡◌, ℕ, ◌+◌, ◌<◌, ◌≤◌, ◌⊎◌, inl, inr, Bool, false, List, length, get_or, set, ◌∙◌, arith, below_more}
use Rattle.std.proofs.lemmas.List.{get_or-set_same, get_or-set_other}
use Rattle.near_untouched.specs.Marks.{is_marked}
use Rattle.near_untouched.specs.Later.{AreTouchedAt}

-- from number n on all are as they were
abbrev pub AreSameFrom : ℕ → List ℕ → List ℕ → Type 0
AreSameFrom n old new = (j : ℕ) → n ≤ j → get_or new j 0 ≡ get_or old j 0

pub touched-more : (marks : List Bool) (number k : ℕ) (old now : List ℕ) → AreTouchedAt k marks number old now → k < length now → AreTouchedAt (k + 1) marks number old (set now k number)
touched-more marks number k old now are within =
    below_more (λ (j : ℕ). (get_or (set now k number) j 0 ≡ number) ⊎ ((is_marked marks j ≡ false) × (get_or (set now k number) j 0 ≡ get_or old j 0))) k
    (λ j less.
    let stays : get_or (set now k number) j 0 ≡ get_or now j 0 = get_or-set_other now k j number 0 (λ same. absurd (omega (arith, same, less))) in
    elim (are j less) [
      | inl has ↦ inl (stays ∙ has)
      | inr free ↦ inr (free.0, stays ∙ free.1)
    ])
    (inl (get_or-set_same now k number 0 within))

pub touched-same : (number k : ℕ) (old now : List ℕ) → AreSameFrom k old now → AreSameFrom (k + 1) old (set now k number)
touched-same number k old now same j past =
    get_or-set_other now k j number 0 (λ is. absurd (omega (arith, is, past))) ∙ same j (omega (arith, past))

pub free-more : (marks : List Bool) (number k : ℕ) (old now : List ℕ) → AreTouchedAt k marks number old now → AreSameFrom k old now → is_marked marks k ≡ false → AreTouchedAt (k + 1) marks number old now
free-more marks number k old now are same off =
    below_more (λ (j : ℕ). (get_or now j 0 ≡ number) ⊎ ((is_marked marks j ≡ false) × (get_or now j 0 ≡ get_or old j 0))) k
    are (inr (off, same k (omega arith)))

-- A sorted set after an item is put in, and after one is taken out.
use Rattle.std.proofs.Common.{◌≡◌, ◌≢◌, ℕ, zero, suc, ◌+◌, ◌-◌, ◌<◌, ◌≤◌, ◌⊎◌, inl, inr, true, false, List, length, get_or, refl, sym, ap, subst, ◌∙◌, arith}
use Rattle.std.specs.List.{Contains, insert, remove}
use Rattle.std.specs.Cmp.{IsTotalOrder}
use Rattle.std.specs.declared.cmp.Ordering.{Ordering}
use Rattle.std.specs.declared.cmp.Ordering.TheVariants.{Less, Equal, Greater}
use Rattle.std.proofs.lemmas.Cmp.{tied_itself}
use Rattle.std.proofs.lemmas.List.Edits.{length-insert, get_or-insert_below, get_or-insert_at, get_or-insert_above, length-remove, get_or-remove_below, get_or-remove_above}
use Rattle.std.proofs.lemmas.List.{get_or_default}
use Rattle.kept_set.specs.Kept.{AreSet, AreRising, IsGap}

-- where a place of a longer list stood before
insert_place : {X : Type 0} (xs : List X) (i : ℕ) (x d : X) (k : ℕ) → i ≤ length xs → k < length (insert xs i x) → ((k < i) × (get_or (insert xs i x) k d ≡ get_or xs k d)) ⊎ (((k ≡ i) × (get_or (insert xs i x) k d ≡ x)) ⊎ ((j : ℕ) × (k ≡ suc j) × (i ≤ j) × (j < length xs) × (get_or (insert xs i x) k d ≡ get_or xs j d)))
insert_place xs i x d zero within below =
    let cases : (zero < i) ⊎ (zero ≡ i) = grind arith in
    elim cases [
      | inl less ↦ inl (less, get_or-insert_below xs i x d zero less within)
      | inr same ↦ inr (inl (same, subst (λ (k : ℕ). get_or (insert xs i x) k d ≡ x) (sym same) (get_or-insert_at xs i x d within)))
    ]
insert_place xs i x d (suc j) within below =
    let len = length-insert xs i x within in
    let cases : (suc j < i) ⊎ ((suc j ≡ i) ⊎ (i ≤ j)) = grind arith in
    elim cases [
      | inl less ↦ inl (less, get_or-insert_below xs i x d (suc j) less within)
      | inr rest ↦ elim rest [
        | inl same ↦ inr (inl (same, subst (λ (k : ℕ). get_or (insert xs i x) k d ≡ x) (sym same) (get_or-insert_at xs i x d within)))
        | inr above ↦
            let one : suc j ≡ j + 1 = omega arith in
            inr (inr (j, refl, above, omega (arith, len), ap (λ (k : ℕ). get_or (insert xs i x) k d) one ∙ get_or-insert_above xs i x d j above within))
      ]
    ]

insert_holds : {K : Type 0} (xs : List K) (i : ℕ) (x y : K) → i ≤ length xs → Contains xs y → Contains (insert xs i x) y
insert_holds xs i x y within (k, lt, is) =
    let len = length-insert xs i x within in
    let cases : (k < i) ⊎ (i ≤ k) = grind arith in
    elim cases [
      | inl less ↦ (k, omega (arith, len), get_or-insert_below xs i x y k less within ∙ is)
      | inr more ↦ (k + 1, omega (arith, len), get_or-insert_above xs i x y k more within ∙ is)
    ]

insert_held : {K : Type 0} (xs : List K) (i : ℕ) (x y : K) → i ≤ length xs → y ≢ x → Contains (insert xs i x) y → Contains xs y
insert_held xs i x y within other (k, lt, is) =
    elim (insert_place xs i x y k within lt) [
      | inl a ↦ (k, omega (arith, a.0), sym a.1 ∙ is)
      | inr rest ↦ elim rest [
        | inl a ↦ absurd (other (sym is ∙ a.1))
        | inr a ↦ (a.0, a.3, sym a.4 ∙ is)
      ]
    ]

pub remove_held : {K : Type 0} (xs : List K) (i : ℕ) (y : K) → i < length xs → (k : ℕ) → k < length (remove xs i) → (j : ℕ) × (j < length xs) × (j ≢ i) × (get_or (remove xs i) k y ≡ get_or xs j y)
remove_held xs i y within k lt =
    let len = length-remove xs i within in
    let cases : (k < i) ⊎ (i ≤ k) = grind arith in
    elim cases [
      | inl less ↦ (k, omega (arith, len), (λ e. omega arith), get_or-remove_below xs i y k less within)
      | inr more ↦ (k + 1, omega (arith, len), (λ e. omega arith), get_or-remove_above xs i y k more within)
    ]

remove_holds : {K : Type 0} (xs : List K) (i : ℕ) (x y : K) → i < length xs → get_or xs i x ≡ x → y ≢ x → Contains xs y → Contains (remove xs i) y
remove_holds xs i x y within here other (k, lt, is) =
    let len = length-remove xs i within in
    let cases : (k < i) ⊎ ((k ≡ i) ⊎ (i < k)) = grind arith in
    elim cases [
      | inl less ↦ (k, omega (arith, len), get_or-remove_below xs i y k less within ∙ is)
      | inr rest ↦ elim rest [
        | inl same ↦ absurd (other (sym is ∙ ap (λ (m : ℕ). get_or xs m y) same ∙ get_or_default xs i y x within ∙ here))
        | inr more ↦ let one : k ≡ (k - 1) + 1 = omega arith in
            (k - 1, omega (arith, len), get_or-remove_above xs i y (k - 1) (omega arith) within ∙ ap (λ (m : ℕ). get_or xs m y) (sym one) ∙ is)
      ]
    ]

-- no item stands where it has a gap
pub gap_lacks : {K : Type 0} {cmp : K → K → Ordering} (total : IsTotalOrder cmp) (xs : List K) (i : ℕ) (x : K) → IsGap cmp xs x i → Contains xs x → ⊥
gap_lacks {cmp = cmp} total xs i x gap (k, lt, is) =
    let itself : cmp (get_or xs k x) x ≡ Equal = ap (λ y. cmp y x) is ∙ tied_itself total x in
    let cases : (k < i) ⊎ (i ≤ k) = grind arith in
    elim cases [
      | inl less ↦ let low : cmp (get_or xs k x) x ≡ Less = gap.before k x (omega arith) less in absurd cc
      | inr more ↦ let high : cmp (get_or xs k x) x ≡ Greater = gap.after k x more lt in absurd cc
    ]

pub insert_set : {K : Type 0} {cmp : K → K → Ordering} (xs : List K) (i : ℕ) (x : K) → IsGap cmp xs x i → AreSet xs (insert xs i x) x true
insert_set xs i x gap = record {
  here = (λ _. (i, omega (arith, gap.within, length-insert xs i x gap.within), get_or-insert_at xs i x x gap.within), λ _. refl);
  others = λ y other. (insert_held xs i x y gap.within other, insert_holds xs i x y gap.within);
}

once : {K : Type 0} {cmp : K → K → Ordering} (total : IsTotalOrder cmp) (xs : List K) (i k : ℕ) (x : K) → AreRising cmp xs → i < length xs → k < length xs → get_or xs i x ≡ x → get_or xs k x ≡ x → i ≡ k
once {cmp = cmp} total xs i k x order below under at_i at_k =
    let itself : cmp x x ≡ Equal = tied_itself total x in
    let cases : (i < k) ⊎ ((i ≡ k) ⊎ (k < i)) = grind arith in
    elim cases [
      | inl less ↦ let given : cmp (get_or xs i x) (get_or xs k x) ≡ Less = order i k x less under in let low : cmp x x ≡ Less = rw (at_i, at_k) at given in absurd cc
      | inr rest ↦ elim rest [
        | inl same ↦ same
        | inr more ↦ let given : cmp (get_or xs k x) (get_or xs i x) ≡ Less = order k i x more below in let low : cmp x x ≡ Less = rw (at_k, at_i) at given in absurd cc
      ]
    ]

pub remove_set : {K : Type 0} {cmp : K → K → Ordering} (total : IsTotalOrder cmp) (xs : List K) (i : ℕ) (x : K) → AreRising cmp xs → i < length xs → get_or xs i x ≡ x → AreSet xs (remove xs i) x false
remove_set total xs i x order within at = record {
  here = (λ none. absurd cc, λ is. let held = remove_held xs i x within is.0 is.1 in absurd (held.2 (once total xs held.0 i x order held.1 within (sym held.3 ∙ is.2) at)));
  others = λ y other. (λ is. let held = remove_held xs i y within is.0 is.1 in (held.0, held.1, sym held.3 ∙ is.2), remove_holds xs i x y within at other);
}

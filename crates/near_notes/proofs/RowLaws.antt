-- Numbers in rows.
use Rattle.std.proofs.Common.{◌≡◌, ℕ, ◌<◌, ◌&&◌, inl, inr, Bool, true, false, cond, eqb, List, [], length, get_or, set, map, refl, sym, ap, ◌∙◌}
use Rattle.std.proofs.lemmas.Bool.{cases_eq, eq-eqb, ne_eqb}
use Rattle.std.proofs.lemmas.List.{get_or-set_same, get_or-set_other, length-set}
use Rattle.near_notes.specs.Rows.{number_at, IsPut}

-- another row with a number more
pub put-row : (old : List (List ℕ)) (row column number : ℕ) (list : List ℕ) → row < length old → ((c : ℕ) → get_or list c 0 ≡ cond (eqb c column) number (get_or (get_or old row []) c 0)) → IsPut old (set old row list) row column number
put-row old row column number list within is = record {
  rows = length-set old row list;
  each = λ r c. elim (cases_eq r row) [
    | inl same ↦
        let here : get_or (set old row list) r [] ≡ list = ap (λ (j : ℕ). get_or (set old row list) j []) same ∙ get_or-set_same old row list [] within in
        let was : get_or old r [] ≡ get_or old row [] = ap (λ (j : ℕ). get_or old j []) same in
        ap (λ (xs : List ℕ). get_or xs c 0) here ∙ is c
        ∙ ap (λ (xs : List ℕ). cond (eqb c column) number (get_or xs c 0)) (sym was)
        ∙ ap (λ (b : Bool). cond (b && eqb c column) number (number_at old r c)) (sym (eq-eqb r row same))
    | inr other ↦
        ap (λ (xs : List ℕ). get_or xs c 0) (get_or-set_other old row r list [] other)
        ∙ ap (λ (b : Bool). cond (b && eqb c column) number (number_at old r c)) (sym (ne_eqb r row other))
  ];
}

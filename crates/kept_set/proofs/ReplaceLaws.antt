-- A sorted set after an item is put in the place of another, between its neighbours.
use Rattle.std.proofs.Common.{◌≡◌, ◌≢◌, ℕ, ◌+◌, ◌-◌, ◌<◌, ◌⊎◌, inl, inr, true, List, length, get_or, set, refl, sym, ap, ◌∙◌, arith}
use Rattle.std.specs.Prelude.{Option, Some, None, IfSome}
use Rattle.std.specs.List.{Contains, HoldsAt, remove}
use Rattle.std.specs.Cmp.{IsTotalOrder}
use Rattle.std.specs.declared.cmp.Ordering.{Ordering}
use Rattle.std.specs.declared.cmp.Ordering.TheVariants.{Less, Equal}
use Rattle.std.proofs.lemmas.Cmp.{tied_itself}
use Rattle.std.proofs.lemmas.List.{get_or-set_same, get_or-set_other, length-set}
use Rattle.std.proofs.lemmas.List.Edits.{length-remove, get_or-remove_below, get_or-remove_above}
use Rattle.kept_set.specs.Kept.{AreSet, AreRising, AreReplaced, IsBetween, KeepsPlace, IsItemAt, IsItemBefore, IsLastBefore, IsFirstAfter}
use Rattle.kept_set.proofs.SetLaws.{remove_set, remove_held}
use Rattle.kept_set.proofs.NeighbourLaws.{found_before, found_not_below, found_after, found_not_above, last_before, first_after}

-- the item before a place is below the one that comes there
low_of : {K : Type 0} (cmp : K → K → Ordering) (xs : List K) (i : ℕ) (x : K) (before : Option K) → IsItemBefore xs i before → IfSome before (λ y. cmp y x ≡ Less) → i ≢ 0 → (d : K) → cmp (get_or xs (i - 1) d) x ≡ Less
low_of cmp xs i x None is below some d = absurd (some is)
low_of cmp xs i x (Some z) is below some d = ap (λ y. cmp y x) (is.1 d) ∙ below

high_of : {K : Type 0} (cmp : K → K → Ordering) (xs : List K) (i : ℕ) (x : K) (after : Option K) → IsItemAt xs (i + 1) after → IfSome after (λ y. cmp x y ≡ Less) → i + 1 < length xs → (d : K) → cmp x (get_or xs (i + 1) d) ≡ Less
high_of cmp xs i x None is above some d = absurd (omega (arith, is, some))
high_of cmp xs i x (Some z) is above some d = ap (λ y. cmp x y) (is.1 d) ∙ above

each_low : {K : Type 0} {cmp : K → K → Ordering} (total : IsTotalOrder cmp) (xs : List K) (i : ℕ) (x : K) → AreRising cmp xs → i < length xs → (i ≢ 0 → (d : K) → cmp (get_or xs (i - 1) d) x ≡ Less) → (j : ℕ) (d : K) → j < i → cmp (get_or xs j d) x ≡ Less
each_low {cmp = cmp} total xs i x rising within low j d lt =
    let some : i ≢ 0 = λ e. omega arith in
    let cases : (j < i - 1) ⊎ (j ≡ i - 1) = grind arith in
    elim cases [
      | inl less ↦ total.trans (get_or xs j d) (get_or xs (i - 1) d) x (rising j (i - 1) d less (omega (arith, within))) (low some d)
      | inr same ↦ ap (λ (k : ℕ). cmp (get_or xs k d) x) same ∙ low some d
    ]

each_high : {K : Type 0} {cmp : K → K → Ordering} (total : IsTotalOrder cmp) (xs : List K) (i : ℕ) (x : K) → AreRising cmp xs → (i + 1 < length xs → (d : K) → cmp x (get_or xs (i + 1) d) ≡ Less) → (k : ℕ) (d : K) → i < k → k < length xs → cmp x (get_or xs k d) ≡ Less
each_high {cmp = cmp} total xs i x rising high k d lt within =
    let some : i + 1 < length xs = omega (arith, lt, within) in
    let cases : (i + 1 < k) ⊎ (k ≡ i + 1) = grind arith in
    elim cases [
      | inl more ↦ total.trans x (get_or xs (i + 1) d) (get_or xs k d) (high some d) (rising (i + 1) k d more within)
      | inr same ↦ ap (λ (m : ℕ). cmp x (get_or xs m d)) same ∙ high some d
    ]

pub replaced_rising : {K : Type 0} {cmp : K → K → Ordering} (total : IsTotalOrder cmp) (xs : List K) (i : ℕ) (x : K) (before after : Option K) → AreRising cmp xs → i < length xs → IsItemBefore xs i before → IsItemAt xs (i + 1) after → IsBetween cmp before x after → AreRising cmp (set xs i x)
replaced_rising {cmp = cmp} total xs i x before after rising within is_before is_after between j k d lt in_new =
    let in_old : k < length xs = omega (arith, in_new, length-set xs i x) in
    let low = each_low total xs i x rising within (low_of cmp xs i x before is_before between.above) in
    let high = each_high total xs i x rising (high_of cmp xs i x after is_after between.below) in
    let cases : (k ≡ i) ⊎ ((j ≡ i) ⊎ ((k ≢ i) × (j ≢ i))) = grind arith in
    elim cases [
      | inl last ↦
          let here : get_or (set xs i x) k d ≡ x = ap (λ (m : ℕ). get_or (set xs i x) m d) last ∙ get_or-set_same xs i x d within in
          rw (here, get_or-set_other xs i j x d (λ e. omega arith)) (low j d (omega (arith, lt, last)))
      | inr rest ↦ elim rest [
        | inl first ↦
            let here : get_or (set xs i x) j d ≡ x = ap (λ (m : ℕ). get_or (set xs i x) m d) first ∙ get_or-set_same xs i x d within in
            rw (here, get_or-set_other xs i k x d (λ e. omega arith)) (high k d (omega (arith, lt, first)) in_old)
        | inr apart ↦ rw (get_or-set_other xs i j x d apart.1, get_or-set_other xs i k x d apart.0) (rising j k d lt in_old)
      ]
    ]

left_over : {K : Type 0} (xs : List K) (i k : ℕ) (y : K) → i < length xs → k < length xs → k ≢ i → get_or xs k y ≡ y → Contains (remove xs i) y
left_over xs i k y within lt apart is =
    let len = length-remove xs i within in
    let cases : (k < i) ⊎ (i < k) = grind arith in
    elim cases [
      | inl less ↦ (k, omega (arith, len), get_or-remove_below xs i y k less within ∙ is)
      | inr more ↦ let one : k ≡ (k - 1) + 1 = omega arith in
          (k - 1, omega (arith, len), get_or-remove_above xs i y (k - 1) (omega arith) within ∙ ap (λ (m : ℕ). get_or xs m y) (sym one) ∙ is)
    ]

come_back : {K : Type 0} (xs : List K) (i : ℕ) (x : K) → i < length xs → AreSet (remove xs i) (set xs i x) x true
come_back xs i x within = record {
  here = (λ _. (i, omega (arith, within, length-set xs i x), get_or-set_same xs i x x within), λ _. refl);
  others = λ y other. (
    λ is.
        let cases : (is.0 ≡ i) ⊎ (is.0 ≢ i) = grind arith in
        elim cases [
          | inl same ↦ absurd (other (sym is.2 ∙ ap (λ (m : ℕ). get_or (set xs i x) m y) same ∙ get_or-set_same xs i x y within))
          | inr apart ↦ left_over xs i is.0 y within (omega (arith, is.1, length-set xs i x)) apart (sym (get_or-set_other xs i is.0 x y apart) ∙ is.2)
        ],
    λ is.
        let held = remove_held xs i y within is.0 is.1 in
        (held.0, omega (arith, held.1, length-set xs i x), get_or-set_other xs i held.0 x y held.2 ∙ sym held.3 ∙ is.2),
  );
}

-- what comes did not stand elsewhere
not_elsewhere : {K : Type 0} {cmp : K → K → Ordering} (total : IsTotalOrder cmp) (xs : List K) (i : ℕ) (x : K) → AreRising cmp (set xs i x) → i < length xs → Contains (remove xs i) x → ⊥
not_elsewhere {cmp = cmp} total xs i x rising within is =
    let held = remove_held xs i x within is.0 is.1 in
    let itself : cmp x x ≡ Equal = tied_itself total x in
    let here : get_or (set xs i x) i x ≡ x = get_or-set_same xs i x x within in
    let there : get_or (set xs i x) held.0 x ≡ x = get_or-set_other xs i held.0 x x held.2 ∙ sym held.3 ∙ is.2 in
    let long = length-set xs i x in
    let apart = held.2 in
    let cases : (held.0 < i) ⊎ (i < held.0) = grind (arith, apart) in
    elim cases [
      | inl less ↦ let low : cmp (get_or (set xs i x) held.0 x) (get_or (set xs i x) i x) ≡ Less = rising held.0 i x less (omega (arith, within, long)) in
          let both : cmp x x ≡ Less = rw (there, here) at low in absurd cc
      | inr more ↦ let high : cmp (get_or (set xs i x) i x) (get_or (set xs i x) held.0 x) ≡ Less = rising i held.0 x more (omega (arith, held.1, long)) in
          let both : cmp x x ≡ Less = rw (here, there) at high in absurd cc
    ]

pub replaced : {K : Type 0} {cmp : K → K → Ordering} (total : IsTotalOrder cmp) (xs : List K) (i : ℕ) (old new : K) → AreRising cmp xs → AreRising cmp (set xs i new) → i < length xs → get_or xs i old ≡ old → AreReplaced xs (set xs i new) old new
replaced total xs i old new rising then within at = record {
  mid = remove xs i;
  had = (i, within, at);
  gone = remove_set total xs i old rising within at;
  come = come_back xs i new within;
  lacked = not_elsewhere total xs i new then within;
}

-- ---- the neighbours of an item at a place

pub before_place : {K : Type 0} {cmp : K → K → Ordering} (total : IsTotalOrder cmp) (xs : List K) (i : ℕ) (x : K) (before : Option K) → AreRising cmp xs → i < length xs → HoldsAt (λ y. cmp y x ≡ Equal) xs i → IsItemBefore xs i before → IsLastBefore cmp xs x before
before_place total xs i x None rising within at is = λ k d lt. found_not_below total xs i x rising at k d (omega (arith, is)) lt
before_place {cmp = cmp} total xs i x (Some z) rising within at is =
    last_before cmp xs i x z rising is.0 (omega (arith, within)) (sym (is.1 z)) (found_before total xs i x rising within at) (found_not_below total xs i x rising at)

pub after_place : {K : Type 0} {cmp : K → K → Ordering} (total : IsTotalOrder cmp) (xs : List K) (i : ℕ) (x : K) (after : Option K) → AreRising cmp xs → i < length xs → HoldsAt (λ y. cmp y x ≡ Equal) xs i → IsItemAt xs (i + 1) after → IsFirstAfter cmp xs x after
after_place total xs i x None rising within at is = λ k d lt. found_not_above total xs i x rising within at k d (omega arith) (omega (arith, is, lt))
after_place {cmp = cmp} total xs i x (Some z) rising within at is =
    first_after cmp xs (i + 1) x z rising is.0 (sym (is.1 z)) (found_not_above total xs i x rising within at) (found_after total xs i x rising at)

-- a place after the one that changes has what it had
pub same_after : {K : Type 0} (xs : List K) (i : ℕ) (x : K) (after : Option K) → IsItemAt xs (i + 1) after → IsItemAt (set xs i x) (i + 1) after
same_after xs i x None is = omega (arith, is, length-set xs i x)
same_after xs i x (Some z) is = (omega (arith, is.0, length-set xs i x), λ d. get_or-set_other xs i (i + 1) x d (λ e. omega arith) ∙ is.1 d)

pub put_here : {K : Type 0} {cmp : K → K → Ordering} (total : IsTotalOrder cmp) (xs : List K) (i : ℕ) (x : K) → i < length xs → HoldsAt (λ y. cmp y x ≡ Equal) (set xs i x) i
put_here {cmp = cmp} total xs i x within d = ap (λ y. cmp y x) (get_or-set_same xs i x d within) ∙ tied_itself total x

-- ---- whether an item keeps the place of another

low_kept : {K : Type 0} {cmp : K → K → Ordering} (total : IsTotalOrder cmp) (xs : List K) (old new : K) (before : Option K) → IsLastBefore cmp xs old before → IfSome before (λ y. cmp y new ≡ Less) → (k : ℕ) (d : K) → k < length xs → cmp (get_or xs k d) old ≡ Less → cmp (get_or xs k d) new ≡ Less
low_kept total xs old new None last above k d lt less = absurd (last k d lt less)
low_kept {cmp = cmp} total xs old new (Some z) last above k d lt less = elim (last.2 k d lt less) [
  | inl same ↦ ap (λ y. cmp y new) same ∙ above
  | inr below ↦ total.trans (get_or xs k d) z new below above
]

high_kept : {K : Type 0} {cmp : K → K → Ordering} (total : IsTotalOrder cmp) (xs : List K) (old new : K) (after : Option K) → IsFirstAfter cmp xs old after → IfSome after (λ y. cmp new y ≡ Less) → (k : ℕ) (d : K) → k < length xs → cmp old (get_or xs k d) ≡ Less → cmp new (get_or xs k d) ≡ Less
high_kept total xs old new None next below k d lt less = absurd (next k d lt less)
high_kept {cmp = cmp} total xs old new (Some z) next below k d lt less = elim (next.2 k d lt less) [
  | inl same ↦ ap (λ y. cmp new y) same ∙ below
  | inr above ↦ total.trans new z (get_or xs k d) below above
]

above_kept : {K : Type 0} (cmp : K → K → Ordering) (xs : List K) (old new : K) (before : Option K) → IsLastBefore cmp xs old before → KeepsPlace cmp xs old new → IfSome before (λ y. cmp y new ≡ Less)
above_kept cmp xs old new None last keeps = tt
above_kept cmp xs old new (Some z) last keeps =
    let at = last.0 in
    ap (λ y. cmp y new) (sym at.2) ∙ (keeps at.0 z at.1).0 (ap (λ y. cmp y old) at.2 ∙ last.1)

below_kept : {K : Type 0} (cmp : K → K → Ordering) (xs : List K) (old new : K) (after : Option K) → IsFirstAfter cmp xs old after → KeepsPlace cmp xs old new → IfSome after (λ y. cmp new y ≡ Less)
below_kept cmp xs old new None next keeps = tt
below_kept cmp xs old new (Some z) next keeps =
    let at = next.0 in
    ap (λ y. cmp new y) (sym at.2) ∙ (keeps at.0 z at.1).1 (ap (λ y. cmp old y) at.2 ∙ next.1)

pub between_keeps : {K : Type 0} {cmp : K → K → Ordering} (total : IsTotalOrder cmp) (xs : List K) (old new : K) (before after : Option K) → IsLastBefore cmp xs old before → IsFirstAfter cmp xs old after → IsBetween cmp before new after → KeepsPlace cmp xs old new
between_keeps {cmp = cmp} total xs old new before after last next between k d lt =
    (low_kept total xs old new before last between.above k d lt, high_kept total xs old new after next between.below k d lt)

pub keeps_between : {K : Type 0} (cmp : K → K → Ordering) (xs : List K) (old new : K) (before after : Option K) → IsLastBefore cmp xs old before → IsFirstAfter cmp xs old after → KeepsPlace cmp xs old new → IsBetween cmp before new after
keeps_between cmp xs old new before after last next keeps = record { above = above_kept cmp xs old new before last keeps; below = below_kept cmp xs old new after next keeps }

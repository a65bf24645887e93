-- Marks that are kept, and legs that have another row.
use Rattle.std.proofs.Common.{◌≡◌, ℕ, ◌+◌, ◌<◌, ◌⊎◌, inl, inr, Bool, true, false, eqb, List, [], ◌∷◌, ◌++◌, length, get_or, set, sym, ap, subst, ◌∙◌, arith, below_more}
use Rattle.std.specs.List.{All, Contains, list_any}
use Rattle.std.proofs.lemmas.Bool.{true≢false, cases_eq, cases_lt, ne_eqb, false_from_ne_true}
use Rattle.std.proofs.lemmas.List.{get_or-set_same, get_or-set_other, set_past}
use Rattle.std.proofs.lemmas.List.Elements.{All-contains, All-push, All-weaker, Contains-append_left, Contains-push}
use Rattle.std.proofs.lemmas.List.Folds.{list_any_none}
use Rattle.desk_units.specs.declared.numbers.Leg.{Leg}
use Rattle.desk_units.specs.declared.numbers.Cabin.{Cabin}
use Rattle.desk_data.specs.declared.row.Group.{Group}
use Rattle.desk_data.specs.PlanRows.{PlanRows, row_at}
use Rattle.near_moves.specs.MoveParts.{leg}
use Rattle.near_untouched.specs.Marks.{is_marked, AreKept, HoldsOf, AreLegsMarked, ArePathsMarked, AreChangedOfFirst}

-- ---- marks

pub mark-kept : (marks : List Bool) (x : ℕ) → AreKept marks (set marks x true)
mark-kept marks x k on =
    elim (cases_eq k x) [
      | inr other ↦ get_or-set_other marks x k true false other ∙ on
      | inl same ↦ elim (cases_lt x (length marks)) [
        | inl within ↦ subst (λ (j : ℕ). is_marked (set marks x true) j ≡ true) (sym same) (get_or-set_same marks x true false within)
        | inr past ↦ ap (λ (all : List Bool). is_marked all k) (set_past marks x true past) ∙ on
      ]
    ]

-- what is not marked was not
pub off-before : (old new : List Bool) (k : ℕ) → AreKept old new → is_marked new k ≡ false → is_marked old k ≡ false
off-before old new k kept off = false_from_ne_true (is_marked old k) (λ on. true≢false (sym (kept k on) ∙ off))

-- where more are marked, it still holds of those that are not
pub holds-kept : (n : ℕ) (old new : List Bool) (Holds : ℕ → Type 0) → AreKept old new → HoldsOf n old Holds → HoldsOf n new Holds
holds-kept n old new Holds kept holds k lt off = holds k lt (off-before old new k kept off)

pub legs-kept : (old new : List Bool) (path : List (Leg × Cabin)) → AreKept old new → AreLegsMarked old path → AreLegsMarked new path
legs-kept old new path kept all = λ k d lt. kept (get_or path k d).0.0 (all k d lt)

pub paths-kept : (old new : List Bool) (groups : List Group) → AreKept old new → ArePathsMarked old groups → ArePathsMarked new groups
paths-kept old new groups kept all = λ k d lt i e within. kept (get_or (get_or groups k d).path i e).0.0 (all k d lt i e within)

-- ---- a leg that is not marked is on no path whose legs are

off-leg : (marks : List Bool) (x y : ℕ) → is_marked marks x ≡ true → is_marked marks y ≡ false → eqb x y ≡ false
off-leg marks x y on off = ne_eqb x y (λ same. true≢false (sym on ∙ ap (is_marked marks) same ∙ off))

pub path-off : (marks : List Bool) (y : ℕ) (path : List (Leg × Cabin)) → AreLegsMarked marks path → is_marked marks y ≡ false → list_any (λ pair. eqb pair.0.0 y) path ≡ false
path-off marks y path all off =
    list_any_none (λ (pair : Leg × Cabin). eqb pair.0.0 y) path (λ k d lt. off-leg marks (get_or path k d).0.0 y (all k d lt) off)

pub paths-off : (marks : List Bool) (y : ℕ) (groups : List Group) → ArePathsMarked marks groups → is_marked marks y ≡ false → list_any (λ group. list_any (λ pair. eqb pair.0.0 y) group.path) groups ≡ false
paths-off marks y groups all off =
    list_any_none (λ (group : Group). list_any (λ (pair : Leg × Cabin). eqb pair.0.0 y) group.path) groups
    (λ k d lt. path-off marks y (get_or groups k d).path (all k d lt) off)

-- ---- legs that have another row

pub changed-same : (P Q : PlanRows) (n : ℕ) (legs : List Leg) → AreChangedOfFirst n P Q legs → row_at P n ≡ row_at Q n → AreChangedOfFirst (n + 1) P Q legs
changed-same P Q n legs are same = record {
  listed = below_more (λ (y : ℕ). (row_at P y ≡ row_at Q y) ⊎ Contains legs (leg y)) n are.listed (inl same);
  within = All-weaker (λ (x : Leg). x.0 < n) (λ (x : Leg). x.0 < n + 1) (λ x lt. omega (arith, lt)) legs are.within;
}

pub changed-more : (P Q : PlanRows) (n : ℕ) (legs : List Leg) → AreChangedOfFirst n P Q legs → AreChangedOfFirst (n + 1) P Q (legs ++ leg n ∷ [])
changed-more P Q n legs are = record {
  listed = below_more (λ (y : ℕ). (row_at P y ≡ row_at Q y) ⊎ Contains (legs ++ leg n ∷ []) (leg y)) n
      (λ y lt. elim (are.listed y lt) [
        | inl same ↦ inl same
        | inr has ↦ inr (Contains-append_left legs (leg n ∷ []) (leg y) has)
      ])
      (inr (Contains-push legs (leg n)));
  within = All-push (λ (x : Leg). x.0 < n + 1) legs (leg n)
      (All-weaker (λ (x : Leg). x.0 < n) (λ (x : Leg). x.0 < n + 1) (λ x lt. omega (arith, lt)) legs are.within)
      (omega arith);
}

-- each leg has the same row, or what holds of each that is listed
pub changed-at : (P Q : PlanRows) (n : ℕ) (legs : List Leg) (Holds : ℕ → Type 0) → AreChangedOfFirst n P Q legs → All (λ (x : Leg). Holds x.0) legs → (y : ℕ) → y < n → (row_at P y ≡ row_at Q y) ⊎ Holds y
changed-at P Q n legs Holds are all y lt =
    elim (are.listed y lt) [
      | inl same ↦ inl same
      | inr has ↦ inr (All-contains (λ (x : Leg). Holds x.0) legs (leg y) all has)
    ]

-- where those are marked that have another row, the others have the same
pub row-same : (P Q : PlanRows) (n : ℕ) (legs : List Leg) (touched : List Bool) → AreChangedOfFirst n P Q legs → All (λ (x : Leg). is_marked touched x.0 ≡ true) legs → HoldsOf n touched (λ y. row_at P y ≡ row_at Q y)
row-same P Q n legs touched are marked y lt off =
    elim (changed-at P Q n legs (λ (x : ℕ). is_marked touched x ≡ true) are marked y lt) [
      | inl same ↦ same
      | inr on ↦ absurd (true≢false (sym on ∙ off))
    ]

-- where none is listed, all have the same
pub rows-all : (P Q : PlanRows) (n : ℕ) (legs : List Leg) → length legs ≡ 0 → AreChangedOfFirst n P Q legs → (y : ℕ) → y < n → row_at P y ≡ row_at Q y
rows-all P Q n legs none are y lt =
    elim (changed-at P Q n legs (λ x. ⊥) are (λ k d there. omega (arith, there, none)) y lt) [
      | inl same ↦ same
      | inr no_leg ↦ absurd no_leg
    ]

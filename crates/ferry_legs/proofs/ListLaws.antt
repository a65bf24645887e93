-- Lists of added legs, with one more.
use Rattle.std.proofs.Common.{◌≡◌, ◌≢◌, ℕ, zero, suc, ◌+◌, ◌<◌, inl, inr, Bool, true, false, cond, eqb, List, [], ◌∷◌, ◌++◌, length, get_or, set, take, refl, sym, ap, subst, ◌∙◌, arith, length-append}
use Rattle.std.specs.Prelude.{Option, Some, None, find, is_some, replicate, sum_by}
use Rattle.std.specs.Option.{option_or}
use Rattle.std.proofs.lemmas.Bool.{cases_eq, eq-eqb, ne_eqb, eqb-false}
use Rattle.std.proofs.lemmas.List.{map-append, take-append-le, take_all, get_or_append_left, get_or_push, get_or-replicate, length-replicate, get_or-set_same, get_or-set_other, length-set}
use Rattle.std.proofs.lemmas.List.Elements.{All-push}
use Rattle.std.proofs.lemmas.List.Folds.{find-append}
use Rattle.std.proofs.lemmas.List.Quantifiers.{all_pairs_push}
use Rattle.std.proofs.lemmas.List.Sums.{sum_by-set}
use Rattle.desk_data.specs.Situation.{Situation, planes_of}
use Rattle.desk_data.specs.PlanRows.{PlanRows}
use Rattle.desk_rules.specs.Cost.{grains}
use Rattle.desk_rules.proofs.FindLaws.{none-cons}
use Rattle.added_legs.specs.declared.added.Added.{Added}
use Rattle.added_legs.specs.Added.{cost_added}
use Rattle.added_legs.specs.Merged.{added_for, IsAdded, AreAdded}
use Rattle.added_legs.specs.Ferried.{with_added, next_added}
use Rattle.ferry_legs.specs.declared.ferried.Ferried.{Ferried}
use Rattle.ferry_legs.specs.Ferried.{AreFerried, added_of}
use Rattle.ferry_legs.specs.Steps.{AreTaken, AreSoFar}

-- ---- one more added leg

none_at : (test : Added → Bool) (A : List Added) (k : ℕ) (d : Added) → find test A ≡ None → k < length A → test (get_or A k d) ≡ false
none_at test [] k d none lt = absurd (omega arith)
none_at test (a ∷ A) zero d none lt = (none-cons test a A none).0
none_at test (a ∷ A) (suc k) d none lt = none_at test A k d (none-cons test a A none).1 (omega arith)

pub one_more_added : (I : Situation) (P : PlanRows) (A : List Added) (a : Added) → AreAdded I P A → IsAdded I P a → added_for A a.plane.0 ≡ None → AreAdded I P (with_added A a)
unfolding added_for
one_more_added I P A a all added free = record {
  each = All-push (IsAdded I P) A a all.each added;
  apart = all_pairs_push (λ (b c : Added). b.plane.0 ≢ c.plane.0) A a all.apart (λ k d lt.
      eqb-false (get_or A k d).plane.0 a.plane.0 (none_at (λ b. eqb b.plane.0 a.plane.0) A k d free lt));
}

-- ---- which aircraft have one

for_more : (A : List Added) (a : Added) (q : ℕ) → added_for (with_added A a) q ≡ option_or (added_for A q) (cond (eqb a.plane.0 q) (Some a) None)
unfolding added_for
for_more A a q = find-append (λ (b : Added). eqb b.plane.0 q) A (a ∷ [])

or_none : {X : Type 0} (o : Option X) → option_or o None ≡ o
or_none None = refl
or_none (Some x) = refl

some_or : {X : Type 0} (o : Option X) (x : X) → is_some (option_or o (Some x)) ≡ true
some_or None x = refl
some_or (Some y) x = refl

pub one_more_taken : (I : Situation) (A : List Added) (a : Added) (taken : List Bool) → a.plane.0 < planes_of I → AreTaken I A taken → AreTaken I (with_added A a) (set taken a.plane.0 true)
one_more_taken I A a taken within h = record {
  planes = length-set taken a.plane.0 true ∙ h.planes;
  each = λ q lt. elim (cases_eq q a.plane.0) [
    | inl same ↦
        ap (λ (k : ℕ). get_or (set taken a.plane.0 true) k false) same
        ∙ get_or-set_same taken a.plane.0 true false (omega (arith, h.planes, within))
        ∙ sym (ap (λ (o : Option Added). is_some o) (for_more A a q)
        ∙ ap (λ (b : Bool). is_some (option_or (added_for A q) (cond b (Some a) None))) (eq-eqb a.plane.0 q (sym same))
        ∙ some_or (added_for A q) a)
    | inr apart ↦
        get_or-set_other taken a.plane.0 q true false apart
        ∙ h.each q lt
        ∙ sym (ap (λ (o : Option Added). is_some o) (for_more A a q)
        ∙ ap (λ (b : Bool). is_some (option_or (added_for A q) (cond b (Some a) None))) (ne_eqb a.plane.0 q (λ same. apart (sym same)))
        ∙ ap (λ (o : Option Added). is_some o) (or_none (added_for A q)))
  ];
}

-- how many aircraft have none
abbrev pub is_free : Bool → ℕ
is_free taken = cond taken 0 1

pub fewer_free : (taken : List Bool) (p : ℕ) → p < length taken → get_or taken p false ≡ false → sum_by is_free (set taken p true) < sum_by is_free taken
fewer_free taken p lt free =
    let sum = sum_by-set is_free taken p true false lt in
    let one : is_free (get_or taken p false) ≡ 1 = ap is_free free in
    omega (arith, sum, one)

-- ---- the list that is ferried

pub none_taken : (I : Situation) → AreTaken I [] (replicate (planes_of I) false)
unfolding added_for
none_taken I = record {
  planes = length-replicate (planes_of I) false;
  each = λ p lt. get_or-replicate (planes_of I) p false false lt;
}

pub none_so_far : (I : Situation) (P : PlanRows) → AreSoFar I P []
none_so_far I P = record {
  each = λ k a lt. absurd (omega arith);
  costs = λ k f lt. absurd (omega arith);
}

pub none_added : (I : Situation) (P : PlanRows) → AreAdded I P []
none_added I P = record { each = λ k a lt. absurd (omega arith); apart = λ i j d lt below. absurd (omega arith) }

pub all_ferried : (I : Situation) (P : PlanRows) (list : List Ferried) → AreSoFar I P list → next_added I P (added_of list) ≡ None → AreFerried I P list
all_ferried I P list h none = record { legs = record { each = h.each; done = none }; costs = h.costs }

-- the last of a list, and those before it
each_of : {X : Type 0} (T : ℕ → X → Type 0) (xs : List X) (x : X) → ((k : ℕ) (d : X) → k < length xs → T k (get_or xs k d)) → T (length xs) x → (k : ℕ) (d : X) → k < length (xs ++ x ∷ []) → T k (get_or (xs ++ x ∷ []) k d)
each_of T xs x before last k d lt =
    elim (cases_eq k (length xs)) [
      | inl same ↦ subst (T k) (sym (get_or_push xs x d k (sym same))) (subst (λ (j : ℕ). T j x) (sym same) last)
      | inr apart ↦
          let below : k < length xs = omega (arith, lt, length-append xs (x ∷ []), apart) in
          subst (T k) (sym (get_or_append_left xs (x ∷ []) d k below)) (before k d below)
    ]

same_length : (list : List Ferried) → length (added_of list) ≡ length list
same_length [] = refl
same_length (f ∷ list) = omega (arith, same_length list)

pub one_more_ferried : (I : Situation) (P : PlanRows) (list : List Ferried) (f : Ferried) → AreSoFar I P list → next_added I P (added_of list) ≡ Some f.leg → f.cost ≡ grains (cost_added I P (with_added (added_of list) f.leg)) → AreSoFar I P (list ++ f ∷ [])
one_more_ferried I P list f h next cost =
    let A = added_of list in
    let a = f.leg in
    let longer : added_of (list ++ f ∷ []) ≡ with_added A a = map-append (λ (g : Ferried). g.leg) list (f ∷ []) in
    let long : length A ≡ length list = same_length list in
    let start : (k : ℕ) → k < length A → take k (with_added A a) ≡ take k A = λ k lt. take-append-le k A (a ∷ []) (omega (arith, lt)) in
    let whole : take (length A) (with_added A a) ≡ A = take-append-le (length A) A (a ∷ []) (omega arith) ∙ take_all (length A) A (omega arith) in
    record {
      each = subst (λ (B : List Added). (k : ℕ) (b : Added) → k < length B → next_added I P (take k B) ≡ Some (get_or B k b)) (sym longer)
          (each_of (λ k b. next_added I P (take k (with_added A a)) ≡ Some b) A a
          (λ k b lt. ap (next_added I P) (start k lt) ∙ h.each k b lt)
          (ap (next_added I P) whole ∙ next));
      costs = subst (λ (B : List Added). (k : ℕ) (g : Ferried) → k < length (list ++ f ∷ []) → (get_or (list ++ f ∷ []) k g).cost ≡ grains (cost_added I P (take (k + 1) B))) (sym longer)
          (each_of (λ k g. g.cost ≡ grains (cost_added I P (take (k + 1) (with_added A a)))) list f
          (λ k g lt. h.costs k g lt ∙ ap (λ (B : List Added). grains (cost_added I P B)) (sym (take-append-le (k + 1) A (a ∷ []) (omega (arith, lt, long)))))
          (cost ∙ ap (λ (B : List Added). grains (cost_added I P B)) (sym (take_all (length list + 1) (with_added A a) (omega (arith, long, length-append A (a ∷ [])))))));
    }

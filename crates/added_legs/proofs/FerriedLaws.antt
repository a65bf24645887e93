-- The lists that are ferried.
use Rattle.std.proofs.Common.{◌≡◌, ℕ, zero, suc, ◌+◌, ◌<◌, ◌≤◌, inl, inr, Bool, true, false, cond, List, [], ◌∷◌, length, get_or, take, map, refl, sym, ap, subst, ◌∙◌, arith, add-one, All}
use Rattle.std.specs.Prelude.{Option, Some, None, find, is_none}
use Rattle.std.specs.List.{filter_map, flat_map, cons_option}
use Rattle.std.proofs.lemmas.Bool.{ltb-true, cases_order}
use Rattle.std.proofs.lemmas.List.{take_more, take_all, take_more_same}
use Rattle.std.proofs.lemmas.List.Elements.{All-nil, All-cons, All-head, All-tail, All-append}
use Rattle.desk_data.specs.Situation.{Situation, airports_of, planes_of}
use Rattle.desk_data.specs.PlanRows.{PlanRows}
use Rattle.desk_rules.specs.Numbers.{numbers}
use Rattle.desk_rules.proofs.FindLaws.{found}
use Rattle.added_legs.specs.declared.added.Added.{Added}
use Rattle.added_legs.specs.Added.{least_added, cost_added}
use Rattle.added_legs.specs.Ferried.{with_added, fits, may_go, added_leg, moments, candidate, candidates, lowers, next_added, IsFerried}
use Rattle.added_legs.specs.Words.{EachPays}

-- ---- what is found

found_from : {X : Type 0} (P : X → Type 0) (test : X → Bool) (y : X) (ys : List X) (x : X) (b : Bool) → test y ≡ b → cond b (Some y) (find test ys) ≡ Some x → P y → (find test ys ≡ Some x → (test x ≡ true) × P x) → (test x ≡ true) × P x
found_from P test y ys x true is h here more =
    let same : y ≡ x = cc in
    (subst (λ z. test z ≡ true) same is, subst P same here)
found_from P test y ys x false is h here more = more h

-- what is found in a list is as all of the list are
pub found_passes : {X : Type 0} (P : X → Type 0) (test : X → Bool) (xs : List X) (x : X) → All P xs → find test xs ≡ Some x → (test x ≡ true) × P x
found_passes P test [] x all h = absurd cc
found_passes P test (y ∷ ys) x all h = found_from P test y ys x (test y) refl h (All-head P y ys all) (found_passes P test ys x (All-tail P y ys all))

one_more : {X : Type 0} (P : X → Type 0) (o : Option X) (xs : List X) → ((x : X) → o ≡ Some x → P x) → All P xs → All P (cons_option o xs)
one_more P None xs is all = all
one_more P (Some x) xs is all = All-cons P x xs (is x refl) all

all_kept : {X : Type 0} (P : X → Type 0) (f : ℕ → Option X) (ns : List ℕ) → ((n : ℕ) (x : X) → f n ≡ Some x → P x) → All P (filter_map f ns)
all_kept P f [] is = All-nil P
all_kept P f (n ∷ ns) is = one_more P (f n) (filter_map f ns) (is n) (all_kept P f ns is)

pub all_joined : {X : Type 0} (P : X → Type 0) (f : ℕ → List X) (ns : List ℕ) → ((n : ℕ) → All P (f n)) → All P (flat_map f ns)
all_joined P f [] is = All-nil P
all_joined P f (n ∷ ns) is = All-append P (f n) (flat_map f ns) (is n) (all_joined P f ns is)

-- ---- candidates

found_if : {X : Type 0} (b : Bool) (test : X → Bool) (xs : List X) (x : X) → cond b (find test xs) None ≡ Some x → test x ≡ true
found_if true test xs x h = (found test xs x h).holds
found_if false test xs x h = absurd cc

-- with a candidate the list breaks no item
all_fit : (I : Situation) (P : PlanRows) (A : List Added) → All (λ a. fits I P A a ≡ true) (candidates I P A)
all_fit I P A =
    all_joined (λ a. fits I P A a ≡ true) (λ (p : ℕ). filter_map (candidate I P A p) (numbers (airports_of I))) (numbers (planes_of I)) (λ p.
    all_kept (λ a. fits I P A a ≡ true) (candidate I P A p) (numbers (airports_of I)) (λ d a is.
    found_if (may_go I P A p d) (fits I P A) (map (added_leg p d) (moments I P p)) a is))

pub next_passes : (I : Situation) (P : PlanRows) (A : List Added) (a : Added) → next_added I P A ≡ Some a → (lowers I P A a ≡ true) × (fits I P A a ≡ true)
unfolding next_added
next_passes I P A a is = found_passes (λ a. fits I P A a ≡ true) (lowers I P A) (candidates I P A) a (all_fit I P A) is

-- ---- each pays

none_is : {X : Type 0} (o : Option X) → is_none o ≡ true → o ≡ None
none_is None h = refl
none_is (Some x) h = absurd cc

no_added : Added
no_added = record { plane = record { 0 = 0 }; dest = record { 0 = 0 }; dep = record { 0 = 0 } }

pub each_pays : (I : Situation) (P : PlanRows) (A : List Added) → IsFerried I P A → EachPays I P A
each_pays I P A h = record {
  cheaper = λ k lt.
      let a = get_or A k no_added in
      let more : take (k + 1) A ≡ with_added (take k A) a = take_more A k no_added lt in
      subst (λ (B : List Added). cost_added I P B < cost_added I P (take k A)) (sym more)
      (ltb-true (cost_added I P (with_added (take k A) a)) (cost_added I P (take k A)) (next_passes I P (take k A) a (h.each k no_added lt)).0);
  sound = λ k lt.
      let a = get_or A k no_added in
      let more : take (k + 1) A ≡ with_added (take k A) a = take_more A k no_added lt in
      subst (λ (B : List Added). least_added I P B ≡ None) (sym more)
      (none_is (least_added I P (with_added (take k A) a)) (next_passes I P (take k A) a (h.each k no_added lt)).1);
}

pub none_left : (I : Situation) (P : PlanRows) (A : List Added) → IsFerried I P A → find (lowers I P A) (candidates I P A) ≡ None
unfolding next_added
none_left I P A h = h.done

-- ---- there is one list

same_some : {X : Type 0} (x y : X) → Some x ≡ Some y → x ≡ y
same_some x y is = cc

some_none : {X : Type 0} (x : X) (o : Option X) → o ≡ Some x → o ≡ None → ⊥
some_none x o is none = absurd cc

same_start : (I : Situation) (P : PlanRows) (A B : List Added) → IsFerried I P A → IsFerried I P B → (k : ℕ) → k ≤ length A → k ≤ length B → take k A ≡ take k B
same_start I P A B h g zero la lb = refl
same_start I P A B h g (suc k) la lb =
    let start = same_start I P A B h g k (omega arith) (omega arith) in
    let la1 : k < length A = omega (arith, la) in
    let lb1 : k < length B = omega (arith, lb) in
    let next : get_or A k no_added ≡ get_or B k no_added =
    same_some (get_or A k no_added) (get_or B k no_added) (sym (h.each k no_added la1) ∙ ap (next_added I P) start ∙ g.each k no_added lb1) in
    subst (λ (n : ℕ). take n A ≡ take n B) (add-one k) (take_more_same A B k no_added la1 lb1 start next)

-- a list that is ferried does not go on in another one
not_longer : (I : Situation) (P : PlanRows) (A B : List Added) → IsFerried I P A → IsFerried I P B → length A < length B → ⊥
not_longer I P A B h g lt =
    let start : A ≡ take (length A) B = sym (take_all (length A) A (omega arith)) ∙ same_start I P A B h g (length A) (omega arith) (omega (arith, lt)) in
    some_none (get_or B (length A) no_added) (next_added I P A) (ap (next_added I P) start ∙ g.each (length A) no_added lt) h.done

pub only_one : (I : Situation) (P : PlanRows) (A B : List Added) → IsFerried I P A → IsFerried I P B → A ≡ B
only_one I P A B h g =
    elim (cases_order (length A) (length B)) [
      | inl same ↦
          sym (take_all (length A) A (omega arith))
          ∙ same_start I P A B h g (length A) (omega arith) (omega (arith, same))
          ∙ take_all (length A) B (omega (arith, same))
      | inr apart ↦ elim apart [
        | inl less ↦ absurd (not_longer I P A B h g less)
        | inr more ↦ absurd (not_longer I P B A g h more)
      ]
    ]

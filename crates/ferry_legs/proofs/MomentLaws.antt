-- A candidate may depart when it does: for callers.
use Rattle.std.proofs.Common.{◌≡◌, ℕ, ◌+◌, ◌≤◌, inl, inr, Bool, true, false, cond, ltb, List, [], ◌∷◌, map, refl, arith}
use Rattle.std.specs.Prelude.{Some, None, filter, find, All}
use Rattle.std.proofs.lemmas.Bool.{cases_Bool, ltb-true}
use Rattle.std.proofs.lemmas.List.Elements.{All-nil, All-cons, All-head, All-tail}
use Rattle.desk_units.specs.declared.numbers.Minute.{Minute}
use Rattle.desk_data.specs.Situation.{Situation}
use Rattle.desk_data.specs.PlanRows.{PlanRows}
use Rattle.desk_rules.specs.Numbers.{numbers}
use Rattle.added_legs.specs.declared.added.Added.{Added}
use Rattle.added_legs.specs.Ferried.{ready, minute, moments, fits, may_go, added_leg, candidate}
use Rattle.added_legs.proofs.FerriedLaws.{found_passes}
use Rattle.ferry_legs.specs.Prices.{IsInTime}

all_mapped : {X Y : Type 0} (R : Y → Type 0) (f : X → Y) (xs : List X) → ((x : X) → R (f x)) → All R (map f xs)
all_mapped R f [] is = All-nil R
all_mapped R f (x ∷ xs) is = All-cons R (f x) (map f xs) (is x) (all_mapped R f xs is)

all_kept : {X : Type 0} (R S : X → Type 0) (q : X → Bool) (xs : List X) → ((x : X) → q x ≡ true → R x → S x) → All R xs → All S (filter q xs)
all_kept R S q [] is all = All-nil S
all_kept R S q (x ∷ xs) is all = elim (cases_Bool (q x)) [
  | inl on ↦ rw on (All-cons S x (filter q xs) (is x on (All-head R x xs all)) (all_kept R S q xs is (All-tail R x xs all)))
  | inr off ↦ rw off (all_kept R S q xs is (All-tail R x xs all))
]

-- a candidate goes to its airport, and is in time
pub record IsCandidate (I : Situation) (P : PlanRows) (p d : ℕ) (a : Added) : Type 0 where
  pub leg : a ≡ added_leg p d a.dep
  pub time : IsInTime I P p a.dep.0

in_time : (I : Situation) (P : PlanRows) (p n : ℕ) → All (λ at. IsInTime I P p at.0) (filter (λ (at : Minute). ltb at.0 I.parts.to.0) (map (λ k. minute (ready I P p + k)) (numbers n)))
in_time I P p n =
    all_kept (λ (at : Minute). ready I P p ≤ at.0) (λ (at : Minute). IsInTime I P p at.0) (λ (at : Minute). ltb at.0 I.parts.to.0) (map (λ k. minute (ready I P p + k)) (numbers n))
    (λ at before after. record { after = after; before = ltb-true at.0 I.parts.to.0 before })
    (all_mapped (λ (at : Minute). ready I P p ≤ at.0) (λ k. minute (ready I P p + k)) (numbers n) (λ k. omega arith))

pub moments_in_time : (I : Situation) (P : PlanRows) (p : ℕ) → All (λ at. IsInTime I P p at.0) (moments I P p)
moments_in_time I P p = in_time I P p 2881

legs_in_time : (I : Situation) (P : PlanRows) (p d : ℕ) (ats : List Minute) → All (λ at. IsInTime I P p at.0) ats → All (IsCandidate I P p d) (map (added_leg p d) ats)
legs_in_time I P p d [] all = All-nil (IsCandidate I P p d)
legs_in_time I P p d (at ∷ ats) all =
    All-cons (IsCandidate I P p d) (added_leg p d at) (map (added_leg p d) ats)
    (record { leg = refl; time = All-head (λ (t : Minute). IsInTime I P p t.0) at ats all })
    (legs_in_time I P p d ats (All-tail (λ (t : Minute). IsInTime I P p t.0) at ats all))

found_in_time : (I : Situation) (P : PlanRows) (p d : ℕ) (may : Bool) (test : Added → Bool) (ats : List Minute) (a : Added) → All (λ at. IsInTime I P p at.0) ats → cond may (find test (map (added_leg p d) ats)) None ≡ Some a → IsCandidate I P p d a
found_in_time I P p d true test ats a all is = (found_passes (IsCandidate I P p d) test (map (added_leg p d) ats) a (legs_in_time I P p d ats all) is).1
found_in_time I P p d false test ats a all is = absurd cc

pub candidate_is : (I : Situation) (P : PlanRows) (A : List Added) (p d : ℕ) (a : Added) → candidate I P A p d ≡ Some a → IsCandidate I P p d a
candidate_is I P A p d a is = found_in_time I P p d (may_go I P A p d) (fits I P A) (moments I P p) a (moments_in_time I P p) is

-- The legs from a leg on.
use Rattle.std.proofs.Common.{◌≡◌, ℕ, ◌<◌, ◌≤◌, ◌⊎◌, inl, inr, Bool, true, false, ◌||◌, eqb, min, not, length, refl, sym, ap, subst, ◌∙◌, arith}
use Rattle.std.specs.List.{AllPairs, Contains, list_all}
use Rattle.std.proofs.lemmas.Bool.{and_parts, and_from, eq-eqb, eqb-true, not-true}
use Rattle.std.proofs.lemmas.List.{length-take}
use Rattle.std.proofs.lemmas.List.Elements.{All-contains, All-weaker}
use Rattle.std.proofs.lemmas.List.Kept.{AllPairs-filter}
use Rattle.desk_data.specs.Situation.{Situation, legs_of, fixed}
use Rattle.desk_data.specs.PlanRows.{PlanRows, row_at}
use Rattle.desk_rules.specs.Rotations.{dep, precedes}
use Rattle.desk_rules.specs.Maintenance.{flies}
use Rattle.desk_rules.specs.Words.{Flies, Precedes}
use Rattle.desk_rules.proofs.RotationLaws.{precedes-holds, precedes-from}
use Rattle.desk_rules.proofs.MaintenanceLaws.{flies-holds, flies-from}
use Rattle.desk_model.specs.Push.{rotation}
use Rattle.desk_model.proofs.RotationOrder.{rotation-ordered, rotation-flown, rotation-each}
use Rattle.near_moves.specs.MoveParts.{flier, legs_from, run, is_run}
use Rattle.near_moves.specs.Words.{IsFrom, IsRun}
use Rattle.std.proofs.lemmas.List.Sums.{AllPass-from_list_all, list_all-from_AllPass}
use Rattle.near_moves.proofs.ListLaws.{contains_filter, filter_contains}

pub or_cases : (a b : Bool) → (a || b) ≡ true → (a ≡ true) ⊎ (b ≡ true)
or_cases true b h = inl refl
or_cases false b h = inr h

pub or_right : (a b : Bool) → b ≡ true → (a || b) ≡ true
or_right true b h = refl
or_right false b h = h

pub or_left : (a b : Bool) → a ≡ true → (a || b) ≡ true
or_left true b h = refl
or_left false b h = absurd cc

pub from-ordered : (I : Situation) (P : PlanRows) (x : ℕ) → AllPairs (Precedes P) (legs_from I P x)
unfolding legs_from
from-ordered I P x = AllPairs-filter (Precedes P) (λ y. (eqb y x) || precedes P x y) (rotation I P (flier (row_at P x))) (rotation-ordered I P (flier (row_at P x)))

pub from-holds : (I : Situation) (P : PlanRows) (x y : ℕ) → Contains (legs_from I P x) y → IsFrom I P x y
unfolding legs_from
from-holds I P x y has =
    let p = flier (row_at P x) in
    let parts = filter_contains (λ z. (eqb z x) || precedes P x z) (rotation I P p) y has in
    let own = All-contains (λ z. (z < legs_of I) × (flies P p z ≡ true)) (rotation I P p) y (rotation-flown I P p) parts.0 in
    elim (or_cases (eqb y x) (precedes P x y) parts.1) [
      | inl here ↦
          let same : y ≡ x = eqb-true y x here in
          record { within = own.0; plane = p; dep = dep P x; flown = flies-holds P p x (subst (λ (k : ℕ). flies P p k ≡ true) same own.1); place = inl same }
      | inr after ↦
          let before = precedes-holds P x y after in
          record { within = own.0; plane = before.plane; dep = before.dep; flown = before.first; place = inr before }
    ]

flier-is : (P : PlanRows) (x p d : ℕ) → Flies P x p d → flier (row_at P x) ≡ p
flier-is P x p d flown = ap flier flown

pub from-each : (I : Situation) (P : PlanRows) (x y : ℕ) → IsFrom I P x y → Contains (legs_from I P x) y
unfolding legs_from
from-each I P x y is =
    let p = flier (row_at P x) in
    elim is.place [
      | inl same ↦
          let flown : flies P p y ≡ true = flies-from P p y is.dep (subst (λ (k : ℕ). Flies P k p is.dep) (sym same) (subst (λ (k : ℕ). Flies P x k is.dep) (sym (flier-is P x is.plane is.dep is.flown)) is.flown)) in
          contains_filter (λ z. (eqb z x) || precedes P x z) (rotation I P p) y (rotation-each I P p y is.within flown) (or_left (eqb y x) (precedes P x y) (eq-eqb y x same))
      | inr before ↦
          let plane : p ≡ before.plane = flier-is P x before.plane before.dep before.first in
          let flown : flies P p y ≡ true = flies-from P p y before.later (subst (λ (k : ℕ). Flies P y k before.later) (sym plane) before.second) in
          contains_filter (λ z. (eqb z x) || precedes P x z) (rotation I P p) y (rotation-each I P p y is.within flown) (or_right (eqb y x) (precedes P x y) (precedes-from P x y before))
    ]

-- ---- runs

min_test : (k n : ℕ) → eqb (min k n) k ≡ true → k ≤ n
min_test k n h = let e : min k n ≡ k = eqb-true (min k n) k h in omega (arith, e)

min_holds : (k n : ℕ) → k ≤ n → eqb (min k n) k ≡ true
min_holds k n h = eq-eqb (min k n) k (omega (arith, h))

pub run-holds : (I : Situation) (P : PlanRows) (x k : ℕ) → is_run I P x k ≡ true → IsRun I P x k
unfolding is_run
run-holds I P x k h =
    let parts = and_parts (eqb (length (run I P x k)) k) (list_all (λ y. not (fixed I y)) (run I P x k)) h in
    record {
      long = min_test k (length (legs_from I P x)) (ap (λ (n : ℕ). eqb n k) (sym (length-take k (legs_from I P x))) ∙ parts.0);
      movable = All-weaker (λ y. not (fixed I y) ≡ true) (λ y. fixed I y ≡ false) (λ y. not-true (fixed I y)) (run I P x k) (AllPass-from_list_all (λ y. not (fixed I y)) (run I P x k) parts.1);
    }

pub run-from : (I : Situation) (P : PlanRows) (x k : ℕ) → IsRun I P x k → is_run I P x k ≡ true
unfolding is_run
run-from I P x k is =
    and_from (eqb (length (run I P x k)) k) (list_all (λ y. not (fixed I y)) (run I P x k))
    (ap (λ (n : ℕ). eqb n k) (length-take k (legs_from I P x)) ∙ min_holds k (length (legs_from I P x)) is.long)
    (list_all-from_AllPass (λ y. not (fixed I y)) (run I P x k) (All-weaker (λ y. fixed I y ≡ false) (λ y. not (fixed I y) ≡ true) (λ y fails. ap not fails) (run I P x k) is.movable))

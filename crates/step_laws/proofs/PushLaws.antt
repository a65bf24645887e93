-- How many legs are placed. That they are placed one at a time stands in hour_counts.
use Rattle.std.proofs.Common.{◌≡◌, ℕ, ◌+◌, ◌≤◌, inl, inr, Bool, true, ◌&&◌, not, List, [], ◌∷◌, length, arith, length-append}
use Rattle.std.specs.Prelude.{Option, filter, fold}
use Rattle.std.proofs.lemmas.Bool.{cases_Bool}
use Rattle.desk_units.specs.declared.numbers.Leg.{Leg}
use Rattle.desk_data.specs.Situation.{Situation, legs_of, fixed}
use Rattle.desk_data.specs.PlanRows.{PlanRows}
use Rattle.desk_rules.specs.Numbers.{numbers}
use Rattle.desk_rules.specs.Rotations.{precedes}
use Rattle.desk_rules.specs.Maintenance.{flies}
use Rattle.desk_rules.proofs.HourLaws.{length-numbers}
use Rattle.desk_rules.proofs.RotationLaws.{precedes-holds}
use Rattle.desk_model.specs.Push.{with_leg, rotation, comes_after, pushed_legs}
use Rattle.desk_model.proofs.RotationOrder.{precedes-itself, precedes-trans}

-- ---- how many legs are placed

length-filter-le : (p : ℕ → Bool) (xs : List ℕ) → length (filter p xs) ≤ length xs
length-filter-le p [] = omega arith
length-filter-le p (x ∷ xs) =
    let ih = length-filter-le p xs in
    elim (cases_Bool (p x)) [
      | inl passes ↦ rw passes (omega (arith, ih))
      | inr fails ↦ rw fails (omega (arith, ih))
    ]

-- two tests that no number passes both keep no more than there are
length-filters : (p q : ℕ → Bool) (xs : List ℕ) → ((x : ℕ) → p x ≡ true → q x ≡ true → ⊥) → length (filter p xs) + length (filter q xs) ≤ length xs
length-filters p q [] apart = omega arith
length-filters p q (x ∷ xs) apart =
    let ih = length-filters p q xs apart in
    elim (cases_Bool (p x)) [
      | inl first ↦ elim (cases_Bool (q x)) [
        | inl second ↦ absurd (apart x first second)
        | inr not_second ↦ rw (first, not_second) (omega (arith, ih))
      ]
      | inr not_first ↦ elim (cases_Bool (q x)) [
        | inl second ↦ rw (not_first, second) (omega (arith, ih))
        | inr not_second ↦ rw (not_first, not_second) (omega (arith, ih))
      ]
    ]

not_both : (P : PlanRows) (x y : ℕ) → precedes P y x ≡ true → precedes P x y ≡ true → ⊥
not_both P x y before later = precedes-itself P x (precedes-trans P x y x (precedes-holds P x y later) (precedes-holds P y x before))

length-with_leg : (P : PlanRows) (legs : List ℕ) (x : ℕ) → length (with_leg P legs x) ≤ length legs + 1
length-with_leg P legs x =
    let both = length-filters (λ y. precedes P y x) (λ y. precedes P x y) legs (λ y before later. not_both P x y before later) in
    let all = length-append (filter (λ y. precedes P y x) legs) (x ∷ filter (λ y. precedes P x y) legs) in
    omega (arith, both, all)

length-legs : (P : PlanRows) (legs more : List ℕ) → length (fold (with_leg P) legs more) ≤ length legs + length more
length-legs P legs [] = omega arith
length-legs P legs (x ∷ more) = omega (arith, length-legs P (with_leg P legs x) more, length-with_leg P legs x)

pub length-rotation : (I : Situation) (P : PlanRows) (p : ℕ) → length (rotation I P p) ≤ legs_of I
unfolding rotation
length-rotation I P p =
    let flown = length-filter-le (flies P p) (numbers (legs_of I)) in
    let all = length-legs P [] (filter (flies P p) (numbers (legs_of I))) in
    omega (arith, flown, all, length-numbers (legs_of I))

-- no more legs are placed than there are
pub length-pushed_legs : (I : Situation) (P : PlanRows) (p : ℕ) (after : Option Leg) → length (pushed_legs I P p after) ≤ legs_of I
unfolding pushed_legs
length-pushed_legs I P p after =
    omega (arith, length-filter-le (λ x. not (fixed I x) && comes_after P after x) (rotation I P p), length-rotation I P p)

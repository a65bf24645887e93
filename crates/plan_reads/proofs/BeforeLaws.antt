-- What the leg before a leg says of the leg that follows, and of the first.
use Rattle.std.proofs.Common.{◌≡◌, ℕ, ◌<◌, inl, inr, Bool, true, false, ◌&&◌, subst}
use Rattle.std.specs.Prelude.{None}
use Rattle.std.proofs.lemmas.Bool.{cases_Bool, and_parts, and_from}
use Rattle.desk_data.specs.Situation.{Situation, legs_of}
use Rattle.desk_data.specs.PlanRows.{PlanRows, row_at}
use Rattle.desk_rules.specs.Numbers.{each_below, none_below, implies}
use Rattle.desk_rules.specs.Rotations.{precedes, follows, is_first}
use Rattle.desk_rules.proofs.Tests.{each_below-holds, each_below-from, none_below-holds, none_below-from, implies-holds, implies-from}
use Rattle.plan_reads.specs.Before.{IsNearest, IsLegBefore}
use Rattle.plan_reads.proofs.OrderLaws.{comes_before-total, not_both, same_tests}

-- where no leg comes before y, it is the first, and follows none
pub none_first : (I : Situation) (P : PlanRows) (y : ℕ) → IsLegBefore P.rows (legs_of I) y None → is_first I P y ≡ true
none_first I P y h = none_below-from (legs_of I) (λ x. precedes P x y) (λ x lt before. not_both (precedes P x y) before (h x lt))

pub none_follows : (I : Situation) (P : PlanRows) (y : ℕ) (test : ℕ → Bool) → IsLegBefore P.rows (legs_of I) y None → each_below (legs_of I) (λ x. implies (follows I P x y) (test x)) ≡ true
none_follows I P y test h =
    each_below-from (legs_of I) (λ x. implies (follows I P x y) (test x)) (λ x lt.
    implies-from (follows I P x y) (test x) (λ next.
    absurd (not_both (precedes P x y) (and_parts (precedes P x y) (none_below (legs_of I) (λ z. precedes P x z && precedes P z y)) next).0 (h x lt))))

-- leg y is the next after the leg before it, and after no other
pub nearest_followed : (I : Situation) (P : PlanRows) (y x : ℕ) → IsNearest P.rows (legs_of I) y x → follows I P x y ≡ true
nearest_followed I P y x h =
    and_from (precedes P x y) (none_below (legs_of I) (λ z. precedes P x z && precedes P z y)) h.before
    (none_below-from (legs_of I) (λ z. precedes P x z && precedes P z y) (λ z lt both.
    let parts = and_parts (precedes P x z) (precedes P z y) both in
    not_both (precedes P x z) parts.0 (h.nearest z lt parts.1)))

followed_nearest : (I : Situation) (P : PlanRows) (y x z : ℕ) → IsNearest P.rows (legs_of I) y x → z < legs_of I → follows I P z y ≡ true → x ≡ z
followed_nearest I P y x z h lt next =
    let parts = and_parts (precedes P z y) (none_below (legs_of I) (λ k. precedes P z k && precedes P k y)) next in
    elim (comes_before-total x z y (row_at P x) (row_at P z) (row_at P y) h.before parts.0 (h.nearest z lt parts.0)) [
      | inl same ↦ same
      | inr before ↦ absurd (not_both (precedes P z x && precedes P x y) (and_from (precedes P z x) (precedes P x y) before h.before)
          (none_below-holds (legs_of I) (λ k. precedes P z k && precedes P k y) parts.1 x h.within))
    ]

pub nearest_not_first : (I : Situation) (P : PlanRows) (y x : ℕ) → IsNearest P.rows (legs_of I) y x → is_first I P y ≡ false
nearest_not_first I P y x h =
    elim (cases_Bool (is_first I P y)) [
      | inl first ↦ absurd (not_both (precedes P x y) h.before (none_below-holds (legs_of I) (λ x. precedes P x y) first x h.within))
      | inr other ↦ other
    ]

-- what is asked of each leg that y follows is asked of the leg before it
pub nearest_asked : (I : Situation) (P : PlanRows) (y x : ℕ) (test : ℕ → Bool) → IsNearest P.rows (legs_of I) y x → each_below (legs_of I) (λ z. implies (follows I P z y) (test z)) ≡ test x
nearest_asked I P y x test h =
    same_tests (each_below (legs_of I) (λ z. implies (follows I P z y) (test z))) (test x)
    (λ each. implies-holds (follows I P x y) (test x) (each_below-holds (legs_of I) (λ z. implies (follows I P z y) (test z)) each x h.within) (nearest_followed I P y x h))
    (λ met. each_below-from (legs_of I) (λ z. implies (follows I P z y) (test z)) (λ z lt.
    implies-from (follows I P z y) (test z) (λ next. subst (λ (k : ℕ). test k ≡ true) (followed_nearest I P y x z h lt next) met)))

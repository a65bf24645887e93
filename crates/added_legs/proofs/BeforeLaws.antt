-- The leg before a leg on its aircraft, with added legs.
use Rattle.std.proofs.Common.{◌≡◌, ℕ, ◌+◌, ◌<◌, Bool, true, false, ◌&&◌, cond, ltb, List, length, refl, sym, ap, subst, ◌∙◌, arith}
use Rattle.std.specs.Prelude.{Option, Some, None}
use Rattle.std.proofs.lemmas.Bool.{true≢false}
use Rattle.std.proofs.lemmas.Bool.Decides.{nat_tests}
use Rattle.desk_units.specs.declared.numbers.Leg.{Leg}
use Rattle.desk_units.specs.declared.numbers.Plane.{Plane}
use Rattle.desk_units.specs.declared.numbers.Minute.{Minute}
use Rattle.desk_data.specs.declared.row.Row.{Row}
use Rattle.desk_data.specs.declared.row.Row.TheVariants.{Flown, Cancelled}
use Rattle.desk_data.specs.Situation.{Situation, legs_of, planes_of}
use Rattle.desk_data.specs.PlanRows.{PlanRows, row_at}
use Rattle.desk_rules.specs.Rotations.{departure, comes_before}
use Rattle.desk_rules.specs.Maintenance.{is_flown_by}
use Rattle.desk_rules.specs.Least.{leg, plane}
use Rattle.plan_reads.specs.Last.{IsLastOf}
use Rattle.plan_reads.specs.Before.{IsLegBefore}
use Rattle.added_legs.specs.declared.added.Added.{Added}
use Rattle.added_legs.specs.Merged.{added_for, row_for, merged_plan}
use Rattle.added_legs.proofs.MergedLaws.{new_row}
use Rattle.added_legs.specs.Stands.{is_after}
use Rattle.added_legs.proofs.LastLaws.{IsLastIn, with_added, last_with, later, row_old}

-- whether a row of leg x comes before that of leg y, which its aircraft flies then
abbrev ahead : ℕ → Plane → Minute → ℕ → Row → Bool
ahead y p d x r = comes_before x r y (Flown p d)

ahead_own : (y : ℕ) (p : Plane) (d : Minute) (z : ℕ) (r : Row) → ahead y p d z r ≡ true → is_flown_by p.0 r ≡ true
ahead_own y p d z (Flown a e) h = grind (arith, nat_tests)
ahead_own y p d z Cancelled h = absurd (true≢false (sym h))

before_in : (R : PlanRows) (n y : ℕ) (p : Plane) (d : Minute) (before : Option Leg) → row_at R y ≡ Flown p d → IsLegBefore R.rows n y before → IsLastIn (ahead y p d) R n before
before_in R n y p d None is h = λ x lt. subst (λ (r : Row). comes_before x (row_at R x) y r ≡ false) is (h x lt)
before_in R n y p d (Some l) is h = record {
  within = h.within;
  passes = subst (λ (r : Row). comes_before l.0 (row_at R l.0) y r ≡ true) is h.before;
  last = λ z lt passes. h.nearest z lt (subst (λ (r : Row). comes_before z (row_at R z) y r ≡ true) (sym is) passes);
}

before_out : (R : PlanRows) (n y : ℕ) (p : Plane) (d : Minute) (before : Option Leg) → row_at R y ≡ Flown p d → IsLastIn (ahead y p d) R n before → IsLegBefore R.rows n y before
before_out R n y p d None is h = λ x lt. subst (λ (r : Row). comes_before x (row_at R x) y r ≡ false) (sym is) (h x lt)
before_out R n y p d (Some l) is h = record {
  within = h.within;
  before = subst (λ (r : Row). comes_before l.0 (row_at R l.0) y r ≡ true) (sym is) h.passes;
  nearest = λ z lt passes. h.last z lt (subst (λ (r : Row). comes_before z (row_at R z) y r ≡ true) is passes);
}

-- ---- a leg of the plan

-- an added leg of its aircraft is before it where it departs earlier
ahead_soon : (n y : ℕ) (p : Plane) (d at : Minute) → y < n → ahead y p d (n + p.0) (Flown (plane p.0) at) ≡ ltb at.0 d.0
ahead_soon n y p d at lt = grind (arith, nat_tests)

ahead_is : (I : Situation) (P : PlanRows) (y : ℕ) (p : Plane) (d : Minute) (before : Option Leg) (o : Option Added) → y < legs_of I → with_added (ahead y p d) P (legs_of I) p.0 before o ≡ later I P p.0 d.0 before o
ahead_is I P y p d before None lt = refl
ahead_is I P y p d before (Some a) lt =
    ap (λ (b : Bool). cond (b && is_after P before a.dep.0) (Some (leg (legs_of I + p.0))) before) (ahead_soon (legs_of I) y p d a.dep lt)

pub before_leg : (I : Situation) (P : PlanRows) (A : List Added) → length P.rows ≡ legs_of I → (y : ℕ) (p : Plane) (d : Minute) (before : Option Leg) → y < legs_of I → p.0 < planes_of I → row_at P y ≡ Flown p d → IsLegBefore P.rows (legs_of I) y before → IsLegBefore (merged_plan I P A).rows (legs_of I + planes_of I) y (later I P p.0 d.0 before (added_for A p.0))
before_leg I P A all y p d before lt within is h =
    before_out (merged_plan I P A) (legs_of I + planes_of I) y p d (later I P p.0 d.0 before (added_for A p.0)) (row_old I P A all y lt ∙ is)
    (subst (IsLastIn (ahead y p d) (merged_plan I P A) (legs_of I + planes_of I)) (ahead_is I P y p d before (added_for A p.0) lt)
    (last_with I P A all p.0 (ahead y p d) (ahead_own y p d) before within (before_in P (legs_of I) y p d before is h)))

-- ---- an added leg

-- a leg of the plan is before an added leg where it departs no later
ahead_early : (n p x : ℕ) (at : Minute) (r : Row) → x < n → ahead (n + p) (plane p) at x r ≡ (is_flown_by p r && ltb (departure r) (at.0 + 1))
ahead_early n p x at (Flown q e) lt = grind (arith, nat_tests)
ahead_early n p x at Cancelled lt = refl

earlier_in : (P : PlanRows) (n p : ℕ) (at : Minute) (earlier : Option Leg) → IsLastOf P p (at.0 + 1) n earlier → IsLastIn (ahead (n + p) (plane p) at) P n earlier
earlier_in P n p at None h = λ x lt. ahead_early n p x at (row_at P x) lt ∙ h x lt
earlier_in P n p at (Some l) h = record {
  within = h.within;
  passes = ahead_early n p l.0 at (row_at P l.0) h.within ∙ h.before;
  last = λ z lt passes. h.last z lt (sym (ahead_early n p z at (row_at P z) lt) ∙ passes);
}

not_ahead : (y p : ℕ) (at : Minute) → ahead y (plane p) at y (Flown (plane p) at) ≡ false
not_ahead y p at = grind (arith, nat_tests)

alone_is : (I : Situation) (P : PlanRows) (p : ℕ) (a : Added) (earlier : Option Leg) → with_added (ahead (legs_of I + p) (plane p) a.dep) P (legs_of I) p earlier (Some a) ≡ earlier
alone_is I P p a earlier =
    ap (λ (b : Bool). cond (b && is_after P earlier a.dep.0) (Some (leg (legs_of I + p))) earlier) (not_ahead (legs_of I + p) p a.dep)

pub before_added : (I : Situation) (P : PlanRows) (A : List Added) → length P.rows ≡ legs_of I → (p : ℕ) (a : Added) (earlier : Option Leg) → p < planes_of I → added_for A p ≡ Some a → IsLastOf P p (a.dep.0 + 1) (legs_of I) earlier → IsLegBefore (merged_plan I P A).rows (legs_of I + planes_of I) (legs_of I + p) earlier
before_added I P A all p a earlier within is h =
    before_out (merged_plan I P A) (legs_of I + planes_of I) (legs_of I + p) (plane p) a.dep earlier (new_row I P A p all within ∙ ap (row_for p) is)
    (subst (IsLastIn (ahead (legs_of I + p) (plane p) a.dep) (merged_plan I P A) (legs_of I + planes_of I))
    (ap (with_added (ahead (legs_of I + p) (plane p) a.dep) P (legs_of I) p earlier) is ∙ alone_is I P p a earlier)
    (last_with I P A all p (ahead (legs_of I + p) (plane p) a.dep) (ahead_own (legs_of I + p) (plane p) a.dep) earlier within (earlier_in P (legs_of I) p a.dep earlier h)))

-- What the leg before a leg says of the rules C5 and C6.
use Rattle.std.proofs.Common.{◌≡◌, ℕ, ◌+◌, ◌<◌, Bool, ◌||◌, eqb, leb, List, length, get_or, refl, sym, ap, ◌∙◌, subst, arith}
use Rattle.std.specs.Prelude.{Option, Some, None}
use Rattle.std.specs.Option.{ForSome}
use Rattle.desk_units.specs.declared.numbers.Leg.{Leg}
use Rattle.desk_data.specs.declared.row.Row.{Row}
use Rattle.desk_data.specs.declared.row.Row.TheVariants.{Flown, Cancelled}
use Rattle.desk_data.specs.Situation.{Situation, legs_of, leg_at, plane_at}
use Rattle.desk_data.specs.PlanRows.{PlanRows, row_at}
use Rattle.desk_rules.specs.Rotations.{arr, dep, ground_time}
use Rattle.desk_rules.specs.Rules.{c5_location, c6_ground_time, keeps_c5, keeps_c6}
use Rattle.plan_reads.specs.declared.rotation_leg.RotationLeg.{RotationLeg}
use Rattle.plan_reads.specs.Before.{IsLegBefore, AreBefore}
use Rattle.plan_reads.specs.AfterLeg.{IsRotationLegBefore, leg_in, with_departure, c5_location_after, c6_ground_time_after}
use Rattle.plan_reads.proofs.OrderLaws.{and_true}
use Rattle.plan_reads.proofs.BeforeLaws.{none_first, none_follows, nearest_not_first, nearest_asked}

abbrev leaves_where_arrived : Situation → ℕ → ℕ → Bool
leaves_where_arrived I y x = eqb (leg_at I y).origin.0 (leg_at I x).dest.0

row-leaves : (I : Situation) (P : PlanRows) (y : ℕ) (before : Option RotationLeg) (row : Row) → IsRotationLegBefore I P y before → c5_location I P y row ≡ c5_location_after I y before row
row-leaves I P y None (Flown p d) h =
    rw (none_first I P y h.leg, none_follows I P y (leaves_where_arrived I y) h.leg)
    (ap (λ (b : Bool). (plane_at I p.0).surface || b) (and_true (eqb (leg_at I y).origin.0 (plane_at I p.0).origin.0)))
row-leaves I P y (Some at) (Flown p d) h =
    rw (nearest_not_first I P y at.leg.0 h.leg, nearest_asked I P y at.leg.0 (leaves_where_arrived I y) h.leg) refl
row-leaves I P y before Cancelled h = refl

pub keeps_c5-after : (I : Situation) (P : PlanRows) (y : ℕ) (before : Option RotationLeg) (row : Row) → row_at P y ≡ row → IsRotationLegBefore I P y before → c5_location_after I y before row ≡ keeps_c5 I P y
unfolding keeps_c5
keeps_c5-after I P y before row is h =
    sym (ap (c5_location I P y) is ∙ row-leaves I P y before row h)

row-ground_time : (I : Situation) (P : PlanRows) (y : ℕ) (before : Option RotationLeg) (row : Row) → IsRotationLegBefore I P y before → c6_ground_time I P y row ≡ c6_ground_time_after I y before row
row-ground_time I P y None (Flown p d) h =
    rw (none_follows I P y (λ x. leb (arr I P x + ground_time I p.0 x y) d.0) h.leg) refl
row-ground_time I P y (Some at) (Flown p d) h =
    rw (nearest_asked I P y at.leg.0 (λ x. leb (arr I P x + ground_time I p.0 x y) d.0) h.leg, h.departs at refl) refl
row-ground_time I P y before Cancelled h = refl

pub keeps_c6-after : (I : Situation) (P : PlanRows) (y : ℕ) (before : Option RotationLeg) (row : Row) → row_at P y ≡ row → IsRotationLegBefore I P y before → c6_ground_time_after I y before row ≡ keeps_c6 I P y
unfolding keeps_c6
keeps_c6-after I P y before row is h =
    sym (ap (c6_ground_time I P y) is ∙ row-ground_time I P y before row h)

-- ---- the leg before a leg, with its departure

pub before-within : (rows : List Row) (n y : ℕ) (before : Option Leg) → IsLegBefore rows n y before → ForSome before (λ leg. leg.0 < n)
before-within rows n y None h = λ leg is. absurd cc
before-within rows n y (Some first) h = λ leg is. (let same : first ≡ leg = cc in subst (λ (l : Leg). l.0 < n) same h.within)

leg_in-with : (P : PlanRows) (leg : Option Leg) → leg_in (with_departure P leg) ≡ leg
leg_in-with P None = refl
leg_in-with P (Some leg) = refl

departs-with : (P : PlanRows) (leg : Option Leg) → ForSome (with_departure P leg) (λ at. at.dep.0 ≡ dep P at.leg.0)
departs-with P None = λ at is. absurd cc
departs-with P (Some leg) = λ at is.
    let first : RotationLeg = record { dep = record { 0 = dep P leg.0 }; leg = leg } in
    let same : first ≡ at = cc in
    subst (λ (a : RotationLeg). a.dep.0 ≡ dep P a.leg.0) same refl

pub with_departure-before : (I : Situation) (P : PlanRows) (y : ℕ) (before : List (Option Leg)) (at : Option RotationLeg) → length P.rows ≡ legs_of I → y < legs_of I → AreBefore P.rows before → at ≡ with_departure P (get_or before y None) → IsRotationLegBefore I P y at
with_departure-before I P y before at few lt are is =
    let leg = get_or before y None in
    let found : IsLegBefore P.rows (length P.rows) y leg = are.each y (omega (arith, few, lt)) in
    subst (IsRotationLegBefore I P y) (sym is)
    (record {
      leg = subst (λ (l : Option Leg). IsLegBefore P.rows (legs_of I) y l) (sym (leg_in-with P leg)) (subst (λ (n : ℕ). IsLegBefore P.rows n y leg) few found);
      departs = departs-with P leg;
    })

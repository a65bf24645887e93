-- What the rules C4 to C7 ask of the merged plan is what they ask by the legs of the plan and the added leg of an aircraft.
use Rattle.std.proofs.Common.{◌≡◌, ℕ, ◌+◌, ◌<◌, Bool, true, false, not, ◌&&◌, ◌||◌, cond, eqb, ltb, leb, List, length, get_or, refl, sym, ap, subst, ◌∙◌, arith}
use Rattle.std.specs.Prelude.{Option, Some, None}
use Rattle.std.specs.List.{list_any}
use Rattle.std.specs.Option.{ForSome, option_map}
use Rattle.std.proofs.lemmas.Bool.{le-leb, ne_eqb}
use Rattle.std.proofs.lemmas.List.Elements.{All-get_or}
use Rattle.desk_units.specs.declared.numbers.Airport.{Airport}
use Rattle.desk_units.specs.declared.numbers.Leg.{Leg}
use Rattle.desk_units.specs.declared.numbers.Plane.{Plane}
use Rattle.desk_units.specs.declared.numbers.Minute.{Minute}
use Rattle.desk_data.specs.declared.info.LegInfo.{LegInfo}
use Rattle.desk_data.specs.declared.row.Row.{Row}
use Rattle.desk_data.specs.declared.row.Row.TheVariants.{Flown, Cancelled}
use Rattle.desk_data.specs.Situation.{Situation, legs_of, planes_of, airports_of, leg_at, plane_at, spans, no_leg}
use Rattle.desk_data.specs.PlanRows.{PlanRows, row_at}
use Rattle.desk_data.specs.Valid.{IsValid, IsLeg, IsRowOf}
use Rattle.desk_rules.specs.Rotations.{dep, arr, departure, ground_time, is_leg}
use Rattle.desk_rules.specs.Rules.{meets_span, c4_range, c5_location, c6_ground_time, c7_service, keeps_c4, keeps_c5, keeps_c6, keeps_c7}
use Rattle.desk_rules.specs.Least.{leg, plane}
use Rattle.plan_reads.specs.declared.rotation_leg.RotationLeg.{RotationLeg}
use Rattle.plan_reads.specs.Last.{IsLastOf, stand}
use Rattle.plan_reads.specs.Before.{IsLegBefore}
use Rattle.plan_reads.specs.AfterLeg.{IsRotationLegBefore, leg_in, with_departure, has_ground_time_after}
use Rattle.plan_reads.proofs.AfterLegLaws.{keeps_c5-after, keeps_c6-after, before-within}
use Rattle.plan_reads.proofs.LastLaws.{last_in}
use Rattle.added_legs.specs.declared.added.Added.{Added}
use Rattle.added_legs.specs.Merged.{added_for, leg_for, row_for, merged_day, merged_plan}
use Rattle.added_legs.proofs.MergedLaws.{old_leg, new_leg, new_row, merged_legs}
use Rattle.added_legs.proofs.NoneLaws.{same_spans}
use Rattle.added_legs.specs.declared.flight.Flight.{Flight}
use Rattle.added_legs.specs.Flights.{flight_of, AreFlights}
use Rattle.added_legs.specs.Stands.{is_after, stand_with}
use Rattle.added_legs.specs.declared.rule.Rule.{Rule}
use Rattle.added_legs.specs.declared.rule.Rule.TheVariants.{C4Range, C5Location, C6GroundTime, C7Service, C8Maintenance, C9Minutes}
use Rattle.added_legs.specs.Items.{leg_keeps}
use Rattle.added_legs.specs.Asked.{c5_by, c6_by, ready_after, ready_with, c4_added, c5_added, ready_alone, c6_added, c7_added}
use Rattle.added_legs.proofs.LastLaws.{row_old, later}
use Rattle.added_legs.proofs.EndLaws.{old_stand, later_stand}
use Rattle.added_legs.proofs.BeforeLaws.{before_leg, before_added}

leg_in-with : (R : PlanRows) (before : Option Leg) → leg_in (with_departure R before) ≡ before
leg_in-with R None = refl
leg_in-with R (Some l) = refl

departs-with : (R : PlanRows) (before : Option Leg) → ForSome (with_departure R before) (λ at. at.dep.0 ≡ dep R at.leg.0)
departs-with R None = λ at is. absurd cc
departs-with R (Some l) = λ at is.
    let first : RotationLeg = record { dep = record { 0 = dep R l.0 }; leg = l } in
    let same : first ≡ at = cc in
    subst (λ (a : RotationLeg). a.dep.0 ≡ dep R a.leg.0) same refl

rotation_before : (J : Situation) (R : PlanRows) (y : ℕ) (before : Option Leg) → IsLegBefore R.rows (legs_of J) y before → IsRotationLegBefore J R y (with_departure R before)
rotation_before J R y before h = record {
  leg = subst (λ (l : Option Leg). IsLegBefore R.rows (legs_of J) y l) (sym (leg_in-with R before)) h;
  departs = departs-with R before;
}

module _ (I : Situation) (P : PlanRows) (A : List Added) (valid : IsValid I) (all : length P.rows ≡ legs_of I) (flights : List (Option Flight)) (g : AreFlights I P A flights) where
  -- ---- legs of the plan

  c4_row : (x : ℕ) (row : Row) → x < legs_of I → c4_range (merged_day I P A) x row ≡ c4_range I x row
  c4_row x (Flown p d) lt = ap (λ (info : LegInfo). leb info.distance (plane_at I p.0).range) (old_leg I P A x lt)
  c4_row x Cancelled lt = refl

  pub c4_old : (x : ℕ) → x < legs_of I → keeps_c4 (merged_day I P A) (merged_plan I P A) x ≡ c4_range I x (row_at P x)
  unfolding keeps_c4
  c4_old x lt = ap (c4_range (merged_day I P A) x) (row_old I P A all x lt) ∙ c4_row x (row_at P x) lt

  c7_row : (x : ℕ) (row : Row) → x < legs_of I → c7_service (merged_day I P A) x row ≡ c7_service I x row
  c7_row x (Flown p d) lt =
      ap (λ (info : LegInfo). (plane_at I p.0).surface || not (list_any (λ span. meets_span d.0 (d.0 + info.block) span.0 span.1) (spans (merged_day I P A) p.0))) (old_leg I P A x lt)
      ∙ ap (λ (out : List (Minute × Minute)). (plane_at I p.0).surface || not (list_any (λ span. meets_span d.0 (d.0 + (leg_at I x).block) span.0 span.1) out)) (same_spans I P A p.0 valid)
  c7_row x Cancelled lt = refl

  pub c7_old : (x : ℕ) → x < legs_of I → keeps_c7 (merged_day I P A) (merged_plan I P A) x ≡ c7_service I x (row_at P x)
  unfolding keeps_c7
  c7_old x lt = ap (c7_service (merged_day I P A) x) (row_old I P A all x lt) ∙ c7_row x (row_at P x) lt

  -- the leg before leg y in the merged plan
  merged_before : (y : ℕ) (p : Plane) (d : Minute) (before : Option Leg) → y < legs_of I → p.0 < planes_of I → row_at P y ≡ Flown p d → IsLegBefore P.rows (legs_of I) y before → IsRotationLegBefore (merged_day I P A) (merged_plan I P A) y (with_departure (merged_plan I P A) (later I P p.0 d.0 before (added_for A p.0)))
  merged_before y p d before lt within is h =
      rotation_before (merged_day I P A) (merged_plan I P A) y (later I P p.0 d.0 before (added_for A p.0))
      (subst (λ (n : ℕ). IsLegBefore (merged_plan I P A).rows n y (later I P p.0 d.0 before (added_for A p.0))) (sym (merged_legs I P A))
      (before_leg I P A all y p d before lt within is h))

  c5_flown : (y : ℕ) (p : Plane) (d : Minute) (before : Option Leg) → y < legs_of I → p.0 < planes_of I → row_at P y ≡ Flown p d → IsLegBefore P.rows (legs_of I) y before → keeps_c5 (merged_day I P A) (merged_plan I P A) y ≡ ((plane_at I p.0).surface || eqb (leg_at I y).origin.0 (stand_with I P p.0 d.0 before (get_or flights p.0 None)).0)
  c5_flown y p d before lt within is h =
      let M = merged_day I P A in
      let Q = merged_plan I P A in
      let now = later I P p.0 d.0 before (added_for A p.0) in
      sym (keeps_c5-after M Q y (with_departure Q now) (Flown p d) (row_old I P A all y lt ∙ is) (merged_before y p d before lt within is h))
      ∙ ap (λ (info : LegInfo). (plane_at I p.0).surface || eqb info.origin.0 (stand M p.0 (leg_in (with_departure Q now))).0) (old_leg I P A y lt)
      ∙ ap (λ (l : Option Leg). (plane_at I p.0).surface || eqb (leg_at I y).origin.0 (stand M p.0 l).0) (leg_in-with Q now)
      ∙ ap (λ (there : Airport). (plane_at I p.0).surface || eqb (leg_at I y).origin.0 there.0) (later_stand I P A p.0 d.0 before (get_or flights p.0 None) within (g.each p.0 within) (before-within P.rows (legs_of I) y before h))

  c5_rows : (y : ℕ) (row : Row) (before : Option Leg) → y < legs_of I → row_at P y ≡ row → IsRowOf (planes_of I) row → IsLegBefore P.rows (legs_of I) y before → keeps_c5 (merged_day I P A) (merged_plan I P A) y ≡ c5_by I P y before flights row
  unfolding keeps_c5
  c5_rows y (Flown p d) before lt is good h = c5_flown y p d before lt good.0 is h
  c5_rows y Cancelled before lt is good h = ap (c5_location (merged_day I P A) (merged_plan I P A) y) (row_old I P A all y lt ∙ is)

  pub c5_old : (y : ℕ) (before : Option Leg) → y < legs_of I → IsRowOf (planes_of I) (row_at P y) → IsLegBefore P.rows (legs_of I) y before → keeps_c5 (merged_day I P A) (merged_plan I P A) y ≡ c5_by I P y before flights (row_at P y)
  c5_old y before lt good h = c5_rows y (row_at P y) before lt refl good h

  -- the ground time after an added leg is the turnaround time: it is no leg's previous one
  not_previous : (y q : ℕ) (o : Option Leg) → ForSome o (λ prev. prev.0 < legs_of I) → is_leg (legs_of I + q) o ≡ false
  not_previous y q None within = refl
  not_previous y q (Some l) within = ne_eqb l.0 (legs_of I + q) (λ same. let lt = within l refl in absurd (omega (arith, same, lt)))

  prev_within : (y : ℕ) → y < legs_of I → ForSome (leg_at I y).prev (λ prev. prev.0 < legs_of I)
  prev_within y lt = (All-get_or (IsLeg (airports_of I) (planes_of I) (legs_of I)) I.parts.legs y no_leg lt valid.parts.legs).prev

  -- an aircraft is ready in time after a leg of the plan
  time_old : (y : ℕ) (p : Plane) (d : Minute) (before : Option Leg) → y < legs_of I → ForSome before (λ leg. leg.0 < legs_of I) → has_ground_time_after (merged_day I P A) p.0 y d.0 (with_departure (merged_plan I P A) before) ≡ leb (ready_after I P p.0 y before) d.0
  time_old y p d None lt within = sym (le-leb 0 d.0 (omega arith))
  time_old y p d (Some l) lt within =
      let below = within l refl in
      ap (λ (r : Row). leb (departure r + (leg_at (merged_day I P A) l.0).block + ground_time (merged_day I P A) p.0 l.0 y) d.0) (row_old I P A all l.0 below)
      ∙ ap (λ (info : LegInfo). leb (dep P l.0 + info.block + ground_time (merged_day I P A) p.0 l.0 y) d.0) (old_leg I P A l.0 below)
      ∙ ap (λ (info : LegInfo). leb (arr I P l.0 + cond (is_leg l.0 info.prev) (plane_at I p.0).transit (plane_at I p.0).turnaround) d.0) (old_leg I P A y lt)

  time_new : (y : ℕ) (p : Plane) (d : Minute) (a : Added) → y < legs_of I → p.0 < planes_of I → added_for A p.0 ≡ Some a → has_ground_time_after (merged_day I P A) p.0 y d.0 (with_departure (merged_plan I P A) (Some (leg (legs_of I + p.0)))) ≡ leb (a.dep.0 + (flight_of I P p.0 a).minutes + (plane_at I p.0).turnaround) d.0
  time_new y p d a lt within is =
      let M = merged_day I P A in
      ap (λ (r : Row). leb (departure r + (leg_at M (legs_of I + p.0)).block + ground_time M p.0 (legs_of I + p.0) y) d.0) (new_row I P A p.0 all within ∙ ap (row_for p.0) is)
      ∙ ap (λ (info : LegInfo). leb (a.dep.0 + info.block + ground_time M p.0 (legs_of I + p.0) y) d.0) (new_leg I P A p.0 within ∙ ap (leg_for I P p.0) is)
      ∙ ap (λ (info : LegInfo). leb (a.dep.0 + (flight_of I P p.0 a).minutes + cond (is_leg (legs_of I + p.0) info.prev) (plane_at I p.0).transit (plane_at I p.0).turnaround) d.0) (old_leg I P A y lt)
      ∙ ap (λ (b : Bool). leb (a.dep.0 + (flight_of I P p.0 a).minutes + cond b (plane_at I p.0).transit (plane_at I p.0).turnaround) d.0) (not_previous y p.0 (leg_at I y).prev (prev_within y lt))

  time_if : (y : ℕ) (p : Plane) (d : Minute) (before : Option Leg) (a : Added) (b : Bool) → y < legs_of I → p.0 < planes_of I → added_for A p.0 ≡ Some a → ForSome before (λ leg. leg.0 < legs_of I) → has_ground_time_after (merged_day I P A) p.0 y d.0 (with_departure (merged_plan I P A) (cond b (Some (leg (legs_of I + p.0))) before)) ≡ leb (cond b (a.dep.0 + (flight_of I P p.0 a).minutes + (plane_at I p.0).turnaround) (ready_after I P p.0 y before)) d.0
  time_if y p d before a true lt within is below = time_new y p d a lt within is
  time_if y p d before a false lt within is below = time_old y p d before lt below

  time_by : (y : ℕ) (p : Plane) (d : Minute) (before : Option Leg) (o : Option Added) → y < legs_of I → p.0 < planes_of I → added_for A p.0 ≡ o → ForSome before (λ leg. leg.0 < legs_of I) → has_ground_time_after (merged_day I P A) p.0 y d.0 (with_departure (merged_plan I P A) (later I P p.0 d.0 before o)) ≡ leb (ready_with I P p.0 y d.0 before (option_map (flight_of I P p.0) o)) d.0
  time_by y p d before None lt within is below = time_old y p d before lt below
  time_by y p d before (Some a) lt within is below = time_if y p d before a (ltb a.dep.0 d.0 && is_after P before a.dep.0) lt within is below

  c6_rows : (y : ℕ) (row : Row) (before : Option Leg) → y < legs_of I → row_at P y ≡ row → IsRowOf (planes_of I) row → IsLegBefore P.rows (legs_of I) y before → keeps_c6 (merged_day I P A) (merged_plan I P A) y ≡ c6_by I P y before flights row
  unfolding keeps_c6
  c6_rows y (Flown p d) before lt is good h =
      let M = merged_day I P A in
      let Q = merged_plan I P A in
      let now = later I P p.0 d.0 before (added_for A p.0) in
      sym (keeps_c6-after M Q y (with_departure Q now) (Flown p d) (row_old I P A all y lt ∙ is) (merged_before y p d before lt good.0 is h))
      ∙ ap (λ (b : Bool). (plane_at I p.0).surface || b) (time_by y p d before (added_for A p.0) lt good.0 refl (before-within P.rows (legs_of I) y before h))
      ∙ ap (λ (f : Option Flight). (plane_at I p.0).surface || leb (ready_with I P p.0 y d.0 before f) d.0) (sym (g.each p.0 good.0))
  c6_rows y Cancelled before lt is good h = ap (c6_ground_time (merged_day I P A) (merged_plan I P A) y) (row_old I P A all y lt ∙ is)

  pub c6_old : (y : ℕ) (before : Option Leg) → y < legs_of I → IsRowOf (planes_of I) (row_at P y) → IsLegBefore P.rows (legs_of I) y before → keeps_c6 (merged_day I P A) (merged_plan I P A) y ≡ c6_by I P y before flights (row_at P y)
  c6_old y before lt good h = c6_rows y (row_at P y) before lt refl good h

  -- ---- added legs

  row_new : (p : ℕ) (o : Option Added) → p < planes_of I → added_for A p ≡ o → row_at (merged_plan I P A) (legs_of I + p) ≡ row_for p o
  row_new p o lt is = new_row I P A p all lt ∙ ap (row_for p) is

  leg_new : (p : ℕ) (o : Option Added) → p < planes_of I → added_for A p ≡ o → leg_at (merged_day I P A) (legs_of I + p) ≡ leg_for I P p o
  leg_new p o lt is = new_leg I P A p lt ∙ ap (leg_for I P p) is

  -- an aircraft with no added leg breaks none
  pub c4_none : (p : ℕ) → p < planes_of I → added_for A p ≡ None → keeps_c4 (merged_day I P A) (merged_plan I P A) (legs_of I + p) ≡ true
  unfolding keeps_c4
  c4_none p lt is = ap (c4_range (merged_day I P A) (legs_of I + p)) (row_new p None lt is)

  pub c5_none : (p : ℕ) → p < planes_of I → added_for A p ≡ None → keeps_c5 (merged_day I P A) (merged_plan I P A) (legs_of I + p) ≡ true
  unfolding keeps_c5
  c5_none p lt is = ap (c5_location (merged_day I P A) (merged_plan I P A) (legs_of I + p)) (row_new p None lt is)

  pub c6_none : (p : ℕ) → p < planes_of I → added_for A p ≡ None → keeps_c6 (merged_day I P A) (merged_plan I P A) (legs_of I + p) ≡ true
  unfolding keeps_c6
  c6_none p lt is = ap (c6_ground_time (merged_day I P A) (merged_plan I P A) (legs_of I + p)) (row_new p None lt is)

  pub c7_none : (p : ℕ) → p < planes_of I → added_for A p ≡ None → keeps_c7 (merged_day I P A) (merged_plan I P A) (legs_of I + p) ≡ true
  unfolding keeps_c7
  c7_none p lt is = ap (c7_service (merged_day I P A) (legs_of I + p)) (row_new p None lt is)

  pub c4_new : (p : ℕ) (a : Added) → p < planes_of I → added_for A p ≡ Some a → keeps_c4 (merged_day I P A) (merged_plan I P A) (legs_of I + p) ≡ c4_added I p (flight_of I P p a)
  unfolding keeps_c4
  c4_new p a lt is =
      ap (c4_range (merged_day I P A) (legs_of I + p)) (row_new p (Some a) lt is)
      ∙ ap (λ (info : LegInfo). leb info.distance (plane_at I p).range) (leg_new p (Some a) lt is)

  pub c7_new : (p : ℕ) (a : Added) → p < planes_of I → added_for A p ≡ Some a → keeps_c7 (merged_day I P A) (merged_plan I P A) (legs_of I + p) ≡ c7_added I p (flight_of I P p a)
  unfolding keeps_c7
  c7_new p a lt is =
      ap (c7_service (merged_day I P A) (legs_of I + p)) (row_new p (Some a) lt is)
      ∙ ap (λ (info : LegInfo). (plane_at I p).surface || not (list_any (λ span. meets_span a.dep.0 (a.dep.0 + info.block) span.0 span.1) (spans (merged_day I P A) p))) (leg_new p (Some a) lt is)
      ∙ ap (λ (out : List (Minute × Minute)). (plane_at I p).surface || not (list_any (λ span. meets_span a.dep.0 (a.dep.0 + (flight_of I P p a).minutes) span.0 span.1) out)) (same_spans I P A p valid)

  new_before : (p : ℕ) (a : Added) (earlier : Option Leg) → p < planes_of I → added_for A p ≡ Some a → IsLastOf P p (a.dep.0 + 1) (legs_of I) earlier → IsRotationLegBefore (merged_day I P A) (merged_plan I P A) (legs_of I + p) (with_departure (merged_plan I P A) earlier)
  new_before p a earlier lt is h =
      rotation_before (merged_day I P A) (merged_plan I P A) (legs_of I + p) earlier
      (subst (λ (n : ℕ). IsLegBefore (merged_plan I P A).rows n (legs_of I + p) earlier) (sym (merged_legs I P A))
      (before_added I P A all p a earlier lt is h))

  pub c5_new : (p : ℕ) (a : Added) (earlier : Option Leg) → p < planes_of I → added_for A p ≡ Some a → IsLastOf P p (a.dep.0 + 1) (legs_of I) earlier → keeps_c5 (merged_day I P A) (merged_plan I P A) (legs_of I + p) ≡ c5_added I p earlier (flight_of I P p a)
  c5_new p a earlier lt is h =
      let M = merged_day I P A in
      let Q = merged_plan I P A in
      sym (keeps_c5-after M Q (legs_of I + p) (with_departure Q earlier) (Flown (plane p) a.dep) (row_new p (Some a) lt is) (new_before p a earlier lt is h))
      ∙ ap (λ (info : LegInfo). (plane_at I p).surface || eqb info.origin.0 (stand M p (leg_in (with_departure Q earlier))).0) (leg_new p (Some a) lt is)
      ∙ ap (λ (l : Option Leg). (plane_at I p).surface || eqb (flight_of I P p a).origin.0 (stand M p l).0) (leg_in-with Q earlier)
      ∙ ap (λ (there : Airport). (plane_at I p).surface || eqb (flight_of I P p a).origin.0 there.0) (old_stand I P A p earlier (last_in I P p (a.dep.0 + 1) earlier h))

  time_alone : (p : ℕ) (a : Added) (earlier : Option Leg) → p < planes_of I → added_for A p ≡ Some a → ForSome earlier (λ leg. leg.0 < legs_of I) → has_ground_time_after (merged_day I P A) p (legs_of I + p) a.dep.0 (with_departure (merged_plan I P A) earlier) ≡ leb (ready_alone I P p earlier) a.dep.0
  time_alone p a None lt is within = sym (le-leb 0 a.dep.0 (omega arith))
  time_alone p a (Some l) lt is within =
      let below = within l refl in
      ap (λ (r : Row). leb (departure r + (leg_at (merged_day I P A) l.0).block + ground_time (merged_day I P A) p l.0 (legs_of I + p)) a.dep.0) (row_old I P A all l.0 below)
      ∙ ap (λ (info : LegInfo). leb (dep P l.0 + info.block + ground_time (merged_day I P A) p l.0 (legs_of I + p)) a.dep.0) (old_leg I P A l.0 below)
      ∙ ap (λ (info : LegInfo). leb (arr I P l.0 + cond (is_leg l.0 info.prev) (plane_at I p).transit (plane_at I p).turnaround) a.dep.0) (leg_new p (Some a) lt is)

  pub c6_new : (p : ℕ) (a : Added) (earlier : Option Leg) → p < planes_of I → added_for A p ≡ Some a → IsLastOf P p (a.dep.0 + 1) (legs_of I) earlier → keeps_c6 (merged_day I P A) (merged_plan I P A) (legs_of I + p) ≡ c6_added I P p earlier (flight_of I P p a)
  c6_new p a earlier lt is h =
      let M = merged_day I P A in
      let Q = merged_plan I P A in
      sym (keeps_c6-after M Q (legs_of I + p) (with_departure Q earlier) (Flown (plane p) a.dep) (row_new p (Some a) lt is) (new_before p a earlier lt is h))
      ∙ ap (λ (b : Bool). (plane_at I p).surface || b) (time_alone p a earlier lt is (last_in I P p (a.dep.0 + 1) earlier h))

  -- an aircraft with no added leg keeps all rules of legs
  pub none_keeps : (rule : Rule) (p : ℕ) → p < planes_of I → added_for A p ≡ None → leg_keeps (merged_day I P A) (merged_plan I P A) rule (legs_of I + p) ≡ true
  none_keeps C4Range p lt is = c4_none p lt is
  none_keeps C5Location p lt is = c5_none p lt is
  none_keeps C6GroundTime p lt is = c6_none p lt is
  none_keeps C7Service p lt is = c7_none p lt is
  none_keeps C8Maintenance p lt is = refl
  none_keeps C9Minutes p lt is = refl

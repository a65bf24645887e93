-- What C8 and C9 ask of an aircraft with one more added leg, by what its legs of the plan say of its maintenance.
use Rattle.std.proofs.Common.{◌≡◌, ◌≢◌, ℕ, ◌+◌, ◌<◌, ◌≤◌, Bool, true, false, not, ◌&&◌, ◌||◌, cond, eqb, ltb, leb, List, length, refl, sym, ap, subst, ◌∙◌, arith}
use Rattle.std.specs.Prelude.{Option, Some, None}
use Rattle.std.specs.Option.{ForSome, option_map}
use Rattle.std.proofs.lemmas.Bool.{and_right, and_from, or_left, ltb-true}
use Rattle.desk_units.specs.declared.numbers.Airport.{Airport}
use Rattle.desk_units.specs.declared.numbers.Leg.{Leg}
use Rattle.desk_data.specs.declared.info.Maint.{Maint}
use Rattle.desk_data.specs.Situation.{Situation, legs_of, planes_of, plane_at}
use Rattle.desk_data.specs.PlanRows.{PlanRows}
use Rattle.desk_rules.specs.Numbers.{none_below}
use Rattle.desk_rules.specs.Rotations.{dep}
use Rattle.desk_rules.specs.Rules.{meets_span}
use Rattle.desk_rules.specs.Maintenance.{flies, departs_from, is_free_for, is_left_at, minutes_before, keeps_c8, keeps_c9}
use Rattle.desk_rules.proofs.Tests.{none_below-from}
use Rattle.desk_rules.proofs.MaintenanceLaws.{departs_from-holds, flies-from}
use Rattle.plan_reads.specs.Last.{IsLastOf, stand}
use Rattle.plan_reads.proofs.LastLaws.{left_asked}
use Rattle.plan_reads.proofs.OrderLaws.{and_true}
use Rattle.added_legs.specs.declared.added.Added.{Added}
use Rattle.added_legs.specs.Merged.{added_for, merged_day, merged_plan}
use Rattle.added_legs.specs.Ferried.{with_added}
use Rattle.added_legs.specs.Flights.{flight_of}
use Rattle.added_legs.specs.Stands.{is_after, stand_with}
use Rattle.plan_checks.specs.Upkeep.{start_of, IsUpkeep}
use Rattle.added_legs.specs.Asked.{with_flight, makes_it, is_within}
use Rattle.added_legs.proofs.MaintLaws.{c8_is, c9_is}
use Rattle.plan_checks.specs.declared.upkeep.Upkeep.{Upkeep}
use Rattle.ferry_legs.specs.declared.way.Way.{Way}
use Rattle.ferry_legs.specs.Departs.{way_of, serves, keeps_maint, keeps_maintenance}
use Rattle.ferry_legs.proofs.ChangeLaws.{for_other, for_new}

-- the type of a term, where the type has no name here
abbrev TypeOf : {X : Type 0} → X → Type 0
TypeOf {X} x = X

and_around : (a b c : Bool) → ((a && b) && c) ≡ ((a && c) && b)
and_around true true true = refl
and_around true true false = refl
and_around true false true = refl
and_around true false false = refl
and_around false b c = refl

no_more : (k : ℕ) → k + 0 ≡ k
no_more k = omega arith

-- C8 from the maintenance's start on: the leg is no longer before it
late_makes : (s t f n c : Bool) (dest there : Airport) (airport : ℕ) → t ≡ false → ((s && t) || ((f && n) && eqb (cond (t && c) dest there).0 airport)) ≡ ((f && n) && eqb there.0 airport)
late_makes s t f n c dest there airport is =
    ap (λ (t : Bool). (s && t) || ((f && n) && eqb (cond (t && c) dest there).0 airport)) is
    ∙ ap (λ (b : Bool). b || ((f && n) && eqb there.0 airport)) (and_right s false refl)

module _ (I : Situation) (P : PlanRows) (all : length P.rows ≡ legs_of I) (p : ℕ) (lt : p < planes_of I) (upkeep : Upkeep) (start : Option Leg) (said : ForSome (plane_at I p).maint (λ maint. IsUpkeep I P p maint (legs_of I) upkeep)) (is_start : IsLastOf P p (start_of (plane_at I p).maint) (legs_of I) start) where
  c8_by : (B : List Added) → keeps_c8 (merged_day I P B) (merged_plan I P B) p ≡ ((plane_at I p).surface || makes_it I P p upkeep start (option_map (flight_of I P p) (added_for B p)) (plane_at I p).maint)
  c8_by B = c8_is I P B all p upkeep start (option_map (flight_of I P p) (added_for B p)) lt refl said is_start

  c9_by : (B : List Added) → keeps_c9 (merged_day I P B) (merged_plan I P B) p ≡ ((plane_at I p).surface || is_within upkeep (option_map (flight_of I P p) (added_for B p)) (plane_at I p).maint)
  c9_by B = c9_is I P B all p upkeep (option_map (flight_of I P p) (added_for B p)) lt refl said

  -- ---- another aircraft has the leg that is added

  pub c8_other : (A : List Added) (a : Added) → p ≢ a.plane.0 → keeps_c8 (merged_day I P (with_added A a)) (merged_plan I P (with_added A a)) p ≡ keeps_c8 (merged_day I P A) (merged_plan I P A) p
  c8_other A a apart =
      c8_by (with_added A a)
      ∙ ap (λ (o : Option Added). (plane_at I p).surface || makes_it I P p upkeep start (option_map (flight_of I P p) o) (plane_at I p).maint) (for_other A a p apart)
      ∙ sym (c8_by A)

  pub c9_other : (A : List Added) (a : Added) → p ≢ a.plane.0 → keeps_c9 (merged_day I P (with_added A a)) (merged_plan I P (with_added A a)) p ≡ keeps_c9 (merged_day I P A) (merged_plan I P A) p
  c9_other A a apart =
      c9_by (with_added A a)
      ∙ ap (λ (o : Option Added). (plane_at I p).surface || is_within upkeep (option_map (flight_of I P p) o) (plane_at I p).maint) (for_other A a p apart)
      ∙ sym (c9_by A)

  -- ---- it is this aircraft

  module _ (a : Added) (own : a.plane.0 ≡ p) (late : (y : ℕ) → y < legs_of I → flies P p y ≡ true → dep P y ≤ a.dep.0) where
    abbrev f : TypeOf (flight_of I P p a)
    f = flight_of I P p a

    abbrev way : Way
    way = way_of I P p a.dest

    -- all legs of the plan depart before the start, where the added one does
    all_stop : (maint : Maint) → (plane_at I p).maint ≡ Some maint → ltb a.dep.0 maint.from.0 ≡ true → upkeep.stops ≡ true
    all_stop maint is before =
        (said maint is).stops
        ∙ none_below-from (legs_of I) (departs_from P p maint.from.0) (λ y below on.
        let flown = departs_from-holds P p maint.from.0 y on in
        let soon = ltb-true a.dep.0 maint.from.0 before in
        let first = late y below (flies-from P p y (dep P y) flown.0) in
        omega (arith, flown.1, soon, first))

    by_time : (maint : Maint) (t : Bool) → (plane_at I p).maint ≡ Some maint → ltb a.dep.0 maint.from.0 ≡ t → is_within upkeep None (Some maint) ≡ true → (makes_it I P p upkeep start (Some f) (Some maint) && is_within upkeep (Some f) (Some maint)) ≡ keeps_maint I P way (Some maint) a.dep.0
    by_time maint true is before was =
        let stops : (upkeep.stops && ltb a.dep.0 maint.from.0) ≡ true = and_from upkeep.stops (ltb a.dep.0 maint.from.0) (all_stop maint is before) before in
        let minutes : upkeep.minutes ≡ minutes_before I P p maint.from.0 = (said maint is).minutes in
        ap (λ (b : Bool). b && is_within upkeep (Some f) (Some maint)) (or_left (upkeep.stops && ltb a.dep.0 maint.from.0) ((with_flight maint upkeep (Some f)).free && eqb (stand_with I P p maint.from.0 start (Some f)).0 maint.airport.0) stops)
        ∙ ap (λ (b : Bool). leb (upkeep.minutes + cond b f.minutes 0) maint.minutes) before
        ∙ ap (λ (k : ℕ). leb (k + f.minutes) maint.minutes) minutes
        ∙ sym (ap (λ (b : Bool). cond b (leb (minutes_before I P p maint.from.0 + way.minutes) maint.minutes) (serves I P p maint && not (meets_span a.dep.0 (a.dep.0 + way.minutes) maint.from maint.to))) before)
    by_time maint false is before was =
        let at = a.dep.0 in
        let n : Bool = not (meets_span at (at + f.minutes) maint.from maint.to) in
        let free : upkeep.free ≡ is_free_for I P p maint = (said maint is).free in
        let there : is_left_at I P p maint.from.0 maint.airport.0 ≡ eqb (stand I p start).0 maint.airport.0 =
        left_asked I P p maint.from.0 maint.airport.0 start (subst (λ (o : Option Maint). IsLastOf P p (start_of o) (legs_of I) start) is is_start) in
        let few : is_within upkeep (Some f) (Some maint) ≡ true =
        ap (λ (b : Bool). leb (upkeep.minutes + cond b f.minutes 0) maint.minutes) before
        ∙ ap (λ (k : ℕ). leb k maint.minutes) (no_more upkeep.minutes) ∙ was in
        ap (λ (b : Bool). makes_it I P p upkeep start (Some f) (Some maint) && b) few
        ∙ and_true (makes_it I P p upkeep start (Some f) (Some maint))
        ∙ late_makes upkeep.stops (ltb at maint.from.0) upkeep.free n (is_after P start at) f.dest (stand I p start) maint.airport.0 before
        ∙ and_around upkeep.free n (eqb (stand I p start).0 maint.airport.0)
        ∙ ap (λ (b : Bool). (b && eqb (stand I p start).0 maint.airport.0) && n) free
        ∙ ap (λ (b : Bool). (is_free_for I P p maint && b) && n) (sym there)
        ∙ sym (ap (λ (b : Bool). cond b (leb (minutes_before I P p maint.from.0 + way.minutes) maint.minutes) (serves I P p maint && n)) before)

    by_maint : (planned : Option Maint) → (plane_at I p).maint ≡ planned → is_within upkeep None planned ≡ true → (makes_it I P p upkeep start (Some f) planned && is_within upkeep (Some f) planned) ≡ keeps_maint I P way planned a.dep.0
    by_maint None is was = refl
    by_maint (Some maint) is was = by_time maint (ltb a.dep.0 maint.from.0) is refl was

    -- C8 and C9 together
    pub own_maint : (A : List Added) → added_for A p ≡ None → (plane_at I p).surface ≡ false → keeps_c9 (merged_day I P A) (merged_plan I P A) p ≡ true → (keeps_c8 (merged_day I P (with_added A a)) (merged_plan I P (with_added A a)) p && keeps_c9 (merged_day I P (with_added A a)) (merged_plan I P (with_added A a)) p) ≡ keeps_maintenance I P way a.dep.0
    own_maint A alone air was =
        let new : added_for (with_added A a) p ≡ Some a = subst (λ (k : ℕ). added_for (with_added A a) k ≡ Some a) own (for_new A a (subst (λ (k : ℕ). added_for A k ≡ None) (sym own) alone)) in
        let within : is_within upkeep None (plane_at I p).maint ≡ true =
        sym (ap (λ (b : Bool). b || is_within upkeep None (plane_at I p).maint) air)
        ∙ sym (ap (λ (o : Option Added). (plane_at I p).surface || is_within upkeep (option_map (flight_of I P p) o) (plane_at I p).maint) alone)
        ∙ sym (c9_by A) ∙ was in
        ap (λ (b : Bool). b && keeps_c9 (merged_day I P (with_added A a)) (merged_plan I P (with_added A a)) p)
        (c8_by (with_added A a)
        ∙ ap (λ (o : Option Added). (plane_at I p).surface || makes_it I P p upkeep start (option_map (flight_of I P p) o) (plane_at I p).maint) new
        ∙ ap (λ (b : Bool). b || makes_it I P p upkeep start (Some f) (plane_at I p).maint) air)
        ∙ ap (λ (b : Bool). makes_it I P p upkeep start (Some f) (plane_at I p).maint && b)
        (c9_by (with_added A a)
        ∙ ap (λ (o : Option Added). (plane_at I p).surface || is_within upkeep (option_map (flight_of I P p) o) (plane_at I p).maint) new
        ∙ ap (λ (b : Bool). b || is_within upkeep (Some f) (plane_at I p).maint) air)
        ∙ by_maint (plane_at I p).maint refl within

-- With one more added leg nothing is broken exactly where the leg keeps its range and can depart then.
use Rattle.std.proofs.Common.{◌≡◌, ℕ, ◌+◌, ◌<◌, ◌≤◌, inl, inr, Bool, true, false, ◌&&◌, ◌||◌, eqb, leb, List, get_or, refl, sym, ap, subst, ◌∙◌, arith}
use Rattle.std.specs.Prelude.{Option, Some, None, is_none}
use Rattle.std.proofs.lemmas.Bool.{cases_Bool, cases_lt, cases_eq, and_parts, and_from, or_left, or_right, eqb-true, eq-eqb, lt-leb, le-leb}
use Rattle.std.proofs.lemmas.Bool.Decides.{nat_tests}
use Rattle.desk_units.specs.declared.numbers.Leg.{Leg}
use Rattle.desk_data.specs.Situation.{Situation, legs_of, planes_of, plane_at}
use Rattle.desk_data.specs.PlanRows.{PlanRows}
use Rattle.desk_data.specs.Valid.{IsValid, IsPlanFor}
use Rattle.desk_rules.specs.Rules.{keeps_c4, keeps_c5, keeps_c6, keeps_c7}
use Rattle.desk_rules.specs.Rotations.{dep}
use Rattle.desk_rules.specs.Maintenance.{flies, keeps_c8, keeps_c9}
use Rattle.desk_rules.specs.Slots.{hour_of, is_within, keeps_c10, keeps_c11}
use Rattle.desk_rules.specs.Least.{all_hours}
use Rattle.plan_reads.specs.Last.{AreLasts}
use Rattle.plan_reads.proofs.OrderLaws.{same_tests}
use Rattle.hour_counts.specs.declared.slot.Movement.{Movement}
use Rattle.hour_counts.specs.declared.slot.Movement.TheVariants.{Departure, Arrival}
use Rattle.hour_counts.specs.Counts.{one_if}
use Rattle.added_legs.specs.declared.added.Added.{Added}
use Rattle.added_legs.specs.Added.{least_added}
use Rattle.added_legs.specs.Merged.{IsAdded, AreAdded, added_for, merged_day, merged_plan}
use Rattle.added_legs.specs.Ferried.{with_added, fits, ready}
use Rattle.added_legs.proofs.MergedLaws.{merged_legs}
use Rattle.added_legs.proofs.NoneLaws.{same_dep_cap, same_arr_cap}
use Rattle.plan_checks.specs.Upkeep.{start_of}
use Rattle.plan_checks.specs.declared.upkeep.Upkeep.{Upkeep}
use Rattle.ferry_legs.specs.declared.way.Way.{Way}
use Rattle.plan_checks.specs.Upkeep.{AreUpkeeps, no_upkeep}
use Rattle.ferry_legs.specs.Departs.{way_of, is_in_service, keeps_maintenance, airport_of, moment_of, count_of, cap_of, is_below, has_room, has_slot, can_depart}
use Rattle.ferry_legs.specs.Taken.{takes}
use Rattle.ferry_legs.proofs.CountLaws.{merged_count, taken_more}
use Rattle.ferry_legs.proofs.ChangeLaws.{c4_same, c5_same, c6_same, c7_same}
use Rattle.ferry_legs.proofs.TimeSoundLaws.{KeepAll, sound_keeps, keeps_sound}
use Rattle.ferry_legs.proofs.MoreLaws.{more_added}
use Rattle.ferry_legs.proofs.OwnLaws.{late, own_c4, own_c5, own_c6, own_c7, is_way}
use Rattle.ferry_legs.proofs.MaintLaws.{c8_other, c9_other, own_maint}

-- ---- hours

abbrev keeps_hour : Movement → Situation → PlanRows → ℕ → ℕ → Bool
keeps_hour Departure J R a h = keeps_c10 J R a h
keeps_hour Arrival J R a h = keeps_c11 J R a h

hour_is : (movement : Movement) (J : Situation) (R : PlanRows) (a h : ℕ) → keeps_hour movement J R a h ≡ is_within (count_of movement J R a h) (cap_of movement J a h)
unfolding keeps_c10 keeps_c11
hour_is Departure J R a h = refl
hour_is Arrival J R a h = refl

below_within : (k : ℕ) (cap : Option ℕ) → is_below k cap ≡ true → is_within (k + 1) cap ≡ true
below_within k None h = refl
below_within k (Some cap) h = grind (arith, nat_tests)

within_below : (k : ℕ) (cap : Option ℕ) → is_within (k + 1) cap ≡ true → is_below k cap ≡ true
within_below k None h = refl
within_below k (Some cap) h = grind (arith, nat_tests)

or_first : (a b : Bool) → (a || b) ≡ true → a ≡ false → b ≡ true
or_first true b h off = absurd cc
or_first false b h off = h

cap_same : (I : Situation) (P : PlanRows) (B : List Added) (movement : Movement) (a h : ℕ) → IsValid I → cap_of movement (merged_day I P B) a h ≡ cap_of movement I a h
cap_same I P B Departure a h valid = same_dep_cap I P B a h valid
cap_same I P B Arrival a h valid = same_arr_cap I P B a h valid

is_none_none : {X : Type 0} (o : Option X) → is_none o ≡ true → o ≡ None
is_none_none None h = refl
is_none_none (Some x) h = absurd cc

module _ (I : Situation) (P : PlanRows) (valid : IsValid I) (plan : IsPlanFor I P) (A : List Added) (added : AreAdded I P A) (a : Added) (is : IsAdded I P a) (alone : added_for A a.plane.0 ≡ None) where
  abbrev M : Situation
  M = merged_day I P A

  abbrev Q : PlanRows
  Q = merged_plan I P A

  abbrev N : Situation
  N = merged_day I P (with_added A a)

  abbrev R : PlanRows
  R = merged_plan I P (with_added A a)

  abbrev way : Way
  way = way_of I P a.plane.0 a.dest

  more : AreAdded I P (with_added A a)
  more = more_added I P A a added is alone

  count_more : (movement : Movement) (b h : ℕ) → count_of movement N R b h ≡ count_of movement M Q b h + one_if (takes I P movement b h a)
  count_more movement b h =
      omega (arith, merged_count I P (with_added A a) plan.legs more movement b h, merged_count I P A plan.legs added movement b h, taken_more I P movement b h A a)

  hour_by : (movement : Movement) (b h : ℕ) (t : Bool) → takes I P movement b h a ≡ t → keeps_hour movement N R b h ≡ is_within (count_of movement M Q b h + one_if t) (cap_of movement I b h)
  hour_by movement b h t said =
      hour_is movement N R b h
      ∙ ap (is_within (count_of movement N R b h)) (cap_same I P (with_added A a) movement b h valid)
      ∙ ap (λ (k : ℕ). is_within k (cap_of movement I b h)) (count_more movement b h ∙ ap (λ (t : Bool). count_of movement M Q b h + one_if t) said)

  hour_was : (movement : Movement) (b h : ℕ) → keeps_hour movement M Q b h ≡ is_within (count_of movement M Q b h) (cap_of movement I b h)
  hour_was movement b h =
      hour_is movement M Q b h ∙ ap (is_within (count_of movement M Q b h)) (cap_same I P A movement b h valid)

  abbrev at_airport : Movement → ℕ
  at_airport movement = (airport_of movement way).0

  abbrev in_hour : Movement → ℕ
  in_hour movement = hour_of (moment_of movement way a.dep.0)

  none_more : (k : ℕ) → k + 0 ≡ k
  none_more k = omega arith

  -- where there is room, each hour is kept
  room_keeps : (movement : Movement) (b h : ℕ) → h < all_hours → has_slot I P A movement way a.dep.0 ≡ true → keeps_hour movement M Q b h ≡ true → keeps_hour movement N R b h ≡ true
  room_keeps movement b h lt room was =
      elim (cases_Bool (takes I P movement b h a)) [
        | inr off ↦
            hour_by movement b h false off
            ∙ ap (λ (k : ℕ). is_within k (cap_of movement I b h)) (none_more (count_of movement M Q b h))
            ∙ sym (hour_was movement b h) ∙ was
        | inl on ↦
            let same = and_parts (eqb (at_airport movement) b) (eqb (in_hour movement) h) on in
            let there : at_airport movement ≡ b = eqb-true (at_airport movement) b same.0 in
            let then : in_hour movement ≡ h = eqb-true (in_hour movement) h same.1 in
            let here : has_room I P A movement b h ≡ true =
            subst (λ (k : ℕ). has_room I P A movement k h ≡ true) there
            (subst (λ (k : ℕ). has_room I P A movement (at_airport movement) k ≡ true) then room) in
            hour_by movement b h true on
            ∙ below_within (count_of movement M Q b h) (cap_of movement I b h)
            (or_first (leb all_hours h) (is_below (count_of movement M Q b h) (cap_of movement I b h)) here (lt-leb all_hours h lt))
      ]

  -- and where its hour is kept, there was room
  keeps_room : (movement : Movement) → (in_hour movement < all_hours → keeps_hour movement N R (at_airport movement) (in_hour movement) ≡ true) → has_slot I P A movement way a.dep.0 ≡ true
  keeps_room movement kept =
      let b = at_airport movement in
      let h = in_hour movement in
      elim (cases_lt h all_hours) [
        | inr past ↦ or_left (leb all_hours h) (is_below (count_of movement M Q b h) (cap_of movement I b h)) (le-leb all_hours h past)
        | inl lt ↦
            or_right (leb all_hours h) (is_below (count_of movement M Q b h) (cap_of movement I b h))
            (within_below (count_of movement M Q b h) (cap_of movement I b h)
            (sym (hour_by movement b h true (and_from (eqb b b) (eqb h h) (eq-eqb b b refl) (eq-eqb h h refl))) ∙ kept lt))
      ]

  -- ---- all rules

  module _ (lasts starts : List (Option Leg)) (upkeeps : List Upkeep) (are : AreLasts I P (λ p. 52500000) (legs_of I) lasts) (begin : AreLasts I P (λ p. start_of (plane_at I p).maint) (legs_of I) starts) (ups : AreUpkeeps I P (legs_of I) upkeeps) (sound : least_added I P A ≡ None) (le : ready I P a.plane.0 ≤ a.dep.0) where
    abbrev p : ℕ
    p = a.plane.0

    abbrev new : ℕ
    new = legs_of I + a.plane.0

    was : KeepAll M Q
    was = sound_keeps I P A sound

    later : (y : ℕ) → y < legs_of I → flies P p y ≡ true → dep P y ≤ a.dep.0
    later = late I P valid plan lasts are p a.dep.0 is.aircraft le

    in_count : (B : List Added) (x : ℕ) → x < legs_of (merged_day I P B) → x < legs_of I + planes_of I
    in_count B x lt = subst (λ (n : ℕ). x < n) (merged_legs I P B) lt

    from_count : (B : List Added) (x : ℕ) → x < legs_of I + planes_of I → x < legs_of (merged_day I P B)
    from_count B x lt = subst (λ (n : ℕ). x < n) (sym (merged_legs I P B)) lt

    new_in : new < legs_of N
    new_in = from_count (with_added A a) new (let lt = is.aircraft in omega (arith, lt))

    maint_is : (keeps_c8 N R p && keeps_c9 N R p) ≡ keeps_maintenance I P way a.dep.0
    maint_is = own_maint I P plan.legs p is.aircraft (get_or upkeeps p no_upkeep) (get_or starts p None) (ups.each p is.aircraft) (begin.each p is.aircraft) a refl later A alone is.air (was.c9 p is.aircraft)

    kept : leb way.minutes (plane_at I p).range ≡ true → can_depart I P A way a.dep.0 ≡ true → KeepAll N R
    kept short can =
        let first = and_parts (is_in_service I way a.dep.0) (keeps_maintenance I P way a.dep.0 && (has_slot I P A Departure way a.dep.0 && has_slot I P A Arrival way a.dep.0)) can in
        let second = and_parts (keeps_maintenance I P way a.dep.0) (has_slot I P A Departure way a.dep.0 && has_slot I P A Arrival way a.dep.0) first.1 in
        let rooms = and_parts (has_slot I P A Departure way a.dep.0) (has_slot I P A Arrival way a.dep.0) second.1 in
        let maint = and_parts (keeps_c8 N R p) (keeps_c9 N R p) (maint_is ∙ second.0) in
        record {
          c4 = λ x lt. elim (cases_eq x new) [
            | inl same ↦ subst (λ (k : ℕ). keeps_c4 N R k ≡ true) (sym same) (own_c4 I P valid plan lasts are A a more is.aircraft alone is.air le ∙ short)
            | inr apart ↦ c4_same I P A a plan.legs valid is.aircraft alone later x (in_count (with_added A a) x lt) apart ∙ was.c4 x (from_count A x (in_count (with_added A a) x lt))
          ];
          c5 = λ x lt. elim (cases_eq x new) [
            | inl same ↦ subst (λ (k : ℕ). keeps_c5 N R k ≡ true) (sym same) (own_c5 I P valid plan lasts are A a more is.aircraft alone is.air le)
            | inr apart ↦ c5_same I P A a plan.legs valid is.aircraft alone later x (in_count (with_added A a) x lt) apart ∙ was.c5 x (from_count A x (in_count (with_added A a) x lt))
          ];
          c6 = λ x lt. elim (cases_eq x new) [
            | inl same ↦ subst (λ (k : ℕ). keeps_c6 N R k ≡ true) (sym same) (own_c6 I P valid plan lasts are A a more is.aircraft alone is.air le)
            | inr apart ↦ c6_same I P A a plan.legs valid is.aircraft alone later x (in_count (with_added A a) x lt) apart ∙ was.c6 x (from_count A x (in_count (with_added A a) x lt))
          ];
          c7 = λ x lt. elim (cases_eq x new) [
            | inl same ↦ subst (λ (k : ℕ). keeps_c7 N R k ≡ true) (sym same) (own_c7 I P valid plan lasts are A a more is.aircraft alone is.air le ∙ first.0)
            | inr apart ↦ c7_same I P A a plan.legs valid is.aircraft alone later x (in_count (with_added A a) x lt) apart ∙ was.c7 x (from_count A x (in_count (with_added A a) x lt))
          ];
          c8 = λ q lt. elim (cases_eq q p) [
            | inl same ↦ subst (λ (k : ℕ). keeps_c8 N R k ≡ true) (sym same) maint.0
            | inr apart ↦ c8_other I P plan.legs q lt (get_or upkeeps q no_upkeep) (get_or starts q None) (ups.each q lt) (begin.each q lt) A a apart ∙ was.c8 q lt
          ];
          c9 = λ q lt. elim (cases_eq q p) [
            | inl same ↦ subst (λ (k : ℕ). keeps_c9 N R k ≡ true) (sym same) maint.1
            | inr apart ↦ c9_other I P plan.legs q lt (get_or upkeeps q no_upkeep) (get_or starts q None) (ups.each q lt) (begin.each q lt) A a apart ∙ was.c9 q lt
          ];
          c10 = λ b h to lt. room_keeps Departure b h lt rooms.0 (was.c10 b h to lt);
          c11 = λ b h to lt. room_keeps Arrival b h lt rooms.1 (was.c11 b h to lt);
        }

    can : KeepAll N R → (leb way.minutes (plane_at I p).range && can_depart I P A way a.dep.0) ≡ true
    can k =
        let ways = is_way I P valid plan lasts are p a.dest is.aircraft is.airport in
        and_from (leb way.minutes (plane_at I p).range) (can_depart I P A way a.dep.0) (sym (own_c4 I P valid plan lasts are A a more is.aircraft alone is.air le) ∙ k.c4 new new_in)
        (and_from (is_in_service I way a.dep.0) (keeps_maintenance I P way a.dep.0 && (has_slot I P A Departure way a.dep.0 && has_slot I P A Arrival way a.dep.0))
        (sym (own_c7 I P valid plan lasts are A a more is.aircraft alone is.air le) ∙ k.c7 new new_in)
        (and_from (keeps_maintenance I P way a.dep.0) (has_slot I P A Departure way a.dep.0 && has_slot I P A Arrival way a.dep.0)
        (sym maint_is ∙ and_from (keeps_c8 N R p) (keeps_c9 N R p) (k.c8 p is.aircraft) (k.c9 p is.aircraft))
        (and_from (has_slot I P A Departure way a.dep.0) (has_slot I P A Arrival way a.dep.0)
        (keeps_room Departure (λ lt. k.c10 (at_airport Departure) (in_hour Departure) ways.leaves lt))
        (keeps_room Arrival (λ lt. k.c11 (at_airport Arrival) (in_hour Arrival) ways.arrives lt)))))

    pub fits_is : fits I P A a ≡ (leb way.minutes (plane_at I p).range && can_depart I P A way a.dep.0)
    fits_is =
        same_tests (fits I P A a) (leb way.minutes (plane_at I p).range && can_depart I P A way a.dep.0)
        (λ fit. can (sound_keeps I P (with_added A a) (is_none_none (least_added I P (with_added A a)) fit)))
        (λ both.
        let parts = and_parts (leb way.minutes (plane_at I p).range) (can_depart I P A way a.dep.0) both in
        ap is_none (keeps_sound I P (with_added A a) (kept parts.0 parts.1)))

-- What C8 and C9 ask of the merged plan is what they ask by the legs of the plan and the added leg of an aircraft.
use Rattle.std.proofs.Common.{◌≡◌, ℕ, zero, suc, ◌+◌, ◌*◌, ◌<◌, ◌≤◌, ◌⊎◌, inl, inr, Bool, true, false, not, ◌&&◌, ◌||◌, cond, eqb, ltb, leb, List, length, refl, sym, ap, subst, ◌∙◌, arith}
use Rattle.std.specs.Prelude.{Option, Some, None, sum_by}
use Rattle.std.specs.Option.{ForSome, option_map}
use Rattle.std.proofs.lemmas.Bool.{eq-eqb}
use Rattle.std.proofs.lemmas.Bool.Decides.{nat_tests}
use Rattle.desk_units.specs.declared.numbers.Airport.{Airport}
use Rattle.desk_units.specs.declared.numbers.Leg.{Leg}
use Rattle.desk_data.specs.declared.info.LegInfo.{LegInfo}
use Rattle.desk_data.specs.declared.info.Maint.{Maint}
use Rattle.desk_data.specs.declared.row.Row.{Row}
use Rattle.desk_data.specs.Situation.{Situation, legs_of, planes_of, leg_at, plane_at}
use Rattle.desk_data.specs.PlanRows.{PlanRows}
use Rattle.desk_data.specs.Valid.{IsValid}
use Rattle.desk_rules.specs.Numbers.{numbers, each_below, none_below}
use Rattle.desk_rules.specs.Rotations.{dep, arr, departure}
use Rattle.desk_rules.specs.Rules.{meets_span}
use Rattle.desk_rules.specs.Maintenance.{is_flown_by, flies, departs_from, is_free_for, is_left_at, minutes_before, makes_maintenance, is_within_minutes, keeps_c8, keeps_c9}
use Rattle.plan_reads.specs.Last.{IsLastOf}
use Rattle.plan_reads.proofs.LastLaws.{last_in, left_asked}
use Rattle.plan_reads.proofs.OrderLaws.{and_true}
use Rattle.added_legs.specs.declared.added.Added.{Added}
use Rattle.added_legs.specs.Merged.{added_for, leg_for, row_for, merged_day, merged_plan}
use Rattle.added_legs.proofs.MergedLaws.{old_leg, new_leg, new_row, merged_legs}
use Rattle.added_legs.specs.declared.flight.Flight.{Flight}
use Rattle.plan_checks.specs.declared.upkeep.Upkeep.{Upkeep}
use Rattle.added_legs.specs.Flights.{flight_of}
use Rattle.added_legs.specs.Stands.{stand_with}
use Rattle.plan_checks.specs.Upkeep.{start_of, IsUpkeep}
use Rattle.added_legs.specs.Asked.{with_flight, makes_it, is_within}
use Rattle.added_legs.proofs.LastLaws.{row_old, not_own, later, last_before}
use Rattle.added_legs.proofs.EndLaws.{later_stand}
use Rattle.added_legs.proofs.SumLaws.{sum_split, sum_same, sum_more}

-- ---- tests of numbers in two parts

below_cases : (k n : ℕ) → k < suc n → (k < n) ⊎ (k ≡ n)
below_cases k n h = grind arith

and_assoc : (a b c : Bool) → ((a && b) && c) ≡ (a && (b && c))
and_assoc true b c = refl
and_assoc false b c = refl

each_split : (n m : ℕ) (test : ℕ → Bool) → each_below (n + m) test ≡ (each_below n test && each_below m (λ k. test (n + k)))
each_split n zero test =
    let none : n + 0 ≡ n = omega arith in
    ap (λ (k : ℕ). each_below k test) none ∙ sym (and_true (each_below n test))
each_split n (suc m) test =
    let one : n + suc m ≡ suc (n + m) = omega arith in
    ap (λ (k : ℕ). each_below k test) one
    ∙ ap (λ (b : Bool). b && test (n + m)) (each_split n m test)
    ∙ and_assoc (each_below n test) (each_below m (λ k. test (n + k))) (test (n + m))

each_within : (n : ℕ) (f g : ℕ → Bool) → ((k : ℕ) → k < n → f k ≡ g k) → each_below n f ≡ each_below n g
each_within zero f g same = refl
each_within (suc n) f g same =
    ap (λ (b : Bool). b && f n) (each_within n f g (λ k lt. same k (omega arith)))
    ∙ ap (λ (b : Bool). each_below n g && b) (same n (omega arith))

each_all : (n : ℕ) (f : ℕ → Bool) → ((k : ℕ) → k < n → f k ≡ true) → each_below n f ≡ true
each_all zero f all = refl
each_all (suc n) f all =
    ap (λ (b : Bool). b && f n) (each_all n f (λ k lt. all k (omega arith))) ∙ all n (omega arith)

-- a test that all others pass
each_one : (n p : ℕ) (f : ℕ → Bool) → p < n → ((k : ℕ) → k < n → (k ≡ p → ⊥) → f k ≡ true) → each_below n f ≡ f p
each_one zero p f lt others = absurd (omega arith)
each_one (suc n) p f lt others =
    elim (below_cases p n lt) [
      | inl less ↦
          ap (λ (b : Bool). each_below n f && b) (others n (omega arith) (λ same. omega (arith, same, less)))
          ∙ and_true (each_below n f) ∙ each_one n p f less (λ k below apart. others k (omega arith) apart)
      | inr same ↦
          ap (λ (b : Bool). b && f n) (each_all n f (λ k below. others k (omega arith) (λ is. omega (arith, is, same, below))))
          ∙ ap f (sym same)
    ]

sum_zero : (n : ℕ) → sum_by (λ (k : ℕ). 0) (numbers n) ≡ 0
sum_zero zero = refl
sum_zero (suc n) = omega (arith, sum_more (λ k. 0) n, sum_zero n)

sum_all : (n : ℕ) (f : ℕ → ℕ) → ((k : ℕ) → k < n → f k ≡ 0) → sum_by f (numbers n) ≡ 0
sum_all n f all = sum_same f (λ k. 0) n all ∙ sum_zero n

sum_one : (n p : ℕ) (f : ℕ → ℕ) → p < n → ((k : ℕ) → k < n → (k ≡ p → ⊥) → f k ≡ 0) → sum_by f (numbers n) ≡ f p
sum_one zero p f lt others = absurd (omega arith)
sum_one (suc n) p f lt others =
    elim (below_cases p n lt) [
      | inl less ↦ omega (arith, sum_more f n, others n (omega arith) (λ same. omega (arith, same, less)), sum_one n p f less (λ k below apart. others k (omega arith) apart))
      | inr same ↦
          let rest = sum_all n f (λ k below. others k (omega arith) (λ is. omega (arith, is, same, below))) in
          let last : f p ≡ f n = ap f same in
          omega (arith, sum_more f n, rest, last)
    ]

-- ---- tests of the legs of an aircraft

none_new : Option Added → Bool → Bool
none_new None b = true
none_new (Some a) b = not b

amount_new : Option Added → ℕ → ℕ
amount_new None k = 0
amount_new (Some a) k = k

module _ (I : Situation) (P : PlanRows) (A : List Added) (all : length P.rows ≡ legs_of I) where
  others_not : (p q : ℕ) → q < planes_of I → (q ≡ p → ⊥) → flies (merged_plan I P A) p (legs_of I + q) ≡ false
  others_not p q lt apart = ap (is_flown_by p) (new_row I P A q all lt) ∙ not_own p q (added_for A q) (λ same. absurd (apart same))

  own_flies : (p : ℕ) (o : Option Added) → p < planes_of I → added_for A p ≡ o → (b : Bool) → not (flies (merged_plan I P A) p (legs_of I + p) && b) ≡ none_new o b
  unfolding none_new
  own_flies p None lt is b = ap (λ (r : Row). not (is_flown_by p r && b)) (new_row I P A p all lt ∙ ap (row_for p) is)
  own_flies p (Some a) lt is b =
      ap (λ (r : Row). not (is_flown_by p r && b)) (new_row I P A p all lt ∙ ap (row_for p) is)
      ∙ ap (λ (c : Bool). not (c && b)) (eq-eqb p p refl)

  -- no leg of aircraft p passes a test: none of the plan does, and its added leg doesn't
  none_with : (p : ℕ) (u v : ℕ → Bool) → p < planes_of I → ((x : ℕ) → x < legs_of I → u x ≡ v x) → none_below (legs_of I + planes_of I) (λ x. flies (merged_plan I P A) p x && u x) ≡ (none_below (legs_of I) (λ x. flies P p x && v x) && none_new (added_for A p) (u (legs_of I + p)))
  none_with p u v lt same =
      each_split (legs_of I) (planes_of I) (λ x. not (flies (merged_plan I P A) p x && u x))
      ∙ ap (λ (b : Bool). b && each_below (planes_of I) (λ k. not (flies (merged_plan I P A) p (legs_of I + k) && u (legs_of I + k))))
      (each_within (legs_of I) (λ x. not (flies (merged_plan I P A) p x && u x)) (λ x. not (flies P p x && v x)) (λ x below.
      ap (λ (r : Row). not (is_flown_by p r && u x)) (row_old I P A all x below) ∙ ap (λ (b : Bool). not (flies P p x && b)) (same x below)))
      ∙ ap (λ (b : Bool). none_below (legs_of I) (λ x. flies P p x && v x) && b)
      (each_one (planes_of I) p (λ k. not (flies (merged_plan I P A) p (legs_of I + k) && u (legs_of I + k))) lt (λ k below apart. ap (λ (b : Bool). not (b && u (legs_of I + k))) (others_not p k below apart))
      ∙ own_flies p (added_for A p) lt refl (u (legs_of I + p)))

  own_amount : (p : ℕ) (o : Option Added) → p < planes_of I → added_for A p ≡ o → (b : Bool) (k : ℕ) → cond (flies (merged_plan I P A) p (legs_of I + p) && b) k 0 ≡ amount_new o (cond b k 0)
  unfolding amount_new
  own_amount p None lt is b k = ap (λ (r : Row). cond (is_flown_by p r && b) k 0) (new_row I P A p all lt ∙ ap (row_for p) is)
  own_amount p (Some a) lt is b k =
      ap (λ (r : Row). cond (is_flown_by p r && b) k 0) (new_row I P A p all lt ∙ ap (row_for p) is)
      ∙ ap (λ (c : Bool). cond (c && b) k 0) (eq-eqb p p refl)

  -- a sum over the legs of aircraft p that pass a test
  sum_with : (p : ℕ) (u v : ℕ → Bool) → p < planes_of I → ((x : ℕ) → x < legs_of I → u x ≡ v x) → sum_by (λ x. cond (flies (merged_plan I P A) p x && u x) (leg_at (merged_day I P A) x).block 0) (numbers (legs_of I + planes_of I)) ≡ sum_by (λ x. cond (flies P p x && v x) (leg_at I x).block 0) (numbers (legs_of I)) + amount_new (added_for A p) (cond (u (legs_of I + p)) (leg_at (merged_day I P A) (legs_of I + p)).block 0)
  sum_with p u v lt same =
      let f : ℕ → ℕ = λ x. cond (flies (merged_plan I P A) p x && u x) (leg_at (merged_day I P A) x).block 0 in
      sum_split f (legs_of I) (planes_of I)
      ∙ ap (λ (k : ℕ). k + sum_by (λ k. f (legs_of I + k)) (numbers (planes_of I)))
      (sum_same f (λ x. cond (flies P p x && v x) (leg_at I x).block 0) (legs_of I) (λ x below.
      ap (λ (r : Row). cond (is_flown_by p r && u x) (leg_at (merged_day I P A) x).block 0) (row_old I P A all x below)
      ∙ ap (λ (b : Bool). cond (flies P p x && b) (leg_at (merged_day I P A) x).block 0) (same x below)
      ∙ ap (λ (info : LegInfo). cond (flies P p x && v x) info.block 0) (old_leg I P A x below)))
      ∙ ap (λ (k : ℕ). sum_by (λ x. cond (flies P p x && v x) (leg_at I x).block 0) (numbers (legs_of I)) + k)
      (sum_one (planes_of I) p (λ k. f (legs_of I + k)) lt (λ k below apart. ap (λ (b : Bool). cond (b && u (legs_of I + k)) (leg_at (merged_day I P A) (legs_of I + k)).block 0) (others_not p k below apart))
      ∙ own_amount p (added_for A p) lt refl (u (legs_of I + p)) (leg_at (merged_day I P A) (legs_of I + p)).block)

  -- ---- the added leg

  leg_dep : (p : ℕ) (a : Added) → p < planes_of I → added_for A p ≡ Some a → dep (merged_plan I P A) (legs_of I + p) ≡ a.dep.0
  leg_dep p a lt is = ap departure (new_row I P A p all lt ∙ ap (row_for p) is)

  leg_block : (p : ℕ) (a : Added) → p < planes_of I → added_for A p ≡ Some a → (leg_at (merged_day I P A) (legs_of I + p)).block ≡ (flight_of I P p a).minutes
  leg_block p a lt is = ap (λ (info : LegInfo). info.block) (new_leg I P A p lt ∙ ap (leg_for I P p) is)

  not_leb : (a b : ℕ) → not (leb a b) ≡ ltb b a
  not_leb a b = grind (arith, nat_tests)

  stops_by : (p : ℕ) (maint : Maint) (upkeep : Upkeep) (o : Option Added) → p < planes_of I → added_for A p ≡ o → (upkeep.stops && none_new o (leb maint.from.0 (dep (merged_plan I P A) (legs_of I + p)))) ≡ (with_flight maint upkeep (option_map (flight_of I P p) o)).stops
  unfolding none_new
  stops_by p maint upkeep None lt is = and_true upkeep.stops
  stops_by p maint upkeep (Some a) lt is =
      ap (λ (k : ℕ). upkeep.stops && not (leb maint.from.0 k)) (leg_dep p a lt is) ∙ ap (λ (b : Bool). upkeep.stops && b) (not_leb maint.from.0 a.dep.0)

  free_by : (p : ℕ) (maint : Maint) (upkeep : Upkeep) (o : Option Added) → p < planes_of I → added_for A p ≡ o → (upkeep.free && none_new o (meets_span (dep (merged_plan I P A) (legs_of I + p)) (arr (merged_day I P A) (merged_plan I P A) (legs_of I + p)) maint.from maint.to)) ≡ (with_flight maint upkeep (option_map (flight_of I P p) o)).free
  unfolding none_new
  free_by p maint upkeep None lt is = and_true upkeep.free
  free_by p maint upkeep (Some a) lt is =
      ap (λ (k : ℕ). upkeep.free && not (meets_span k (k + (leg_at (merged_day I P A) (legs_of I + p)).block) maint.from maint.to)) (leg_dep p a lt is)
      ∙ ap (λ (k : ℕ). upkeep.free && not (meets_span a.dep.0 (a.dep.0 + k) maint.from maint.to)) (leg_block p a lt is)

  minutes_by : (p : ℕ) (maint : Maint) (upkeep : Upkeep) (o : Option Added) → p < planes_of I → added_for A p ≡ o → upkeep.minutes + amount_new o (cond (ltb (dep (merged_plan I P A) (legs_of I + p)) maint.from.0) (leg_at (merged_day I P A) (legs_of I + p)).block 0) ≡ (with_flight maint upkeep (option_map (flight_of I P p) o)).minutes
  unfolding amount_new
  minutes_by p maint upkeep None lt is = omega arith
  minutes_by p maint upkeep (Some a) lt is =
      ap (λ (k : ℕ). upkeep.minutes + cond (ltb k maint.from.0) (leg_at (merged_day I P A) (legs_of I + p)).block 0) (leg_dep p a lt is)
      ∙ ap (λ (k : ℕ). upkeep.minutes + cond (ltb a.dep.0 maint.from.0) k 0) (leg_block p a lt is)

  -- ---- the rules

  stops_is : (p : ℕ) (maint : Maint) (upkeep : Upkeep) → p < planes_of I → IsUpkeep I P p maint (legs_of I) upkeep → none_below (legs_of (merged_day I P A)) (departs_from (merged_plan I P A) p maint.from.0) ≡ (with_flight maint upkeep (option_map (flight_of I P p) (added_for A p))).stops
  stops_is p maint upkeep lt h =
      ap (λ (n : ℕ). none_below n (departs_from (merged_plan I P A) p maint.from.0)) (merged_legs I P A)
      ∙ none_with p (λ x. leb maint.from.0 (dep (merged_plan I P A) x)) (λ x. leb maint.from.0 (dep P x)) lt (λ x below. ap (λ (r : Row). leb maint.from.0 (departure r)) (row_old I P A all x below))
      ∙ ap (λ (b : Bool). b && none_new (added_for A p) (leb maint.from.0 (dep (merged_plan I P A) (legs_of I + p)))) (sym h.stops)
      ∙ stops_by p maint upkeep (added_for A p) lt refl

  free_is : (p : ℕ) (maint : Maint) (upkeep : Upkeep) → p < planes_of I → IsUpkeep I P p maint (legs_of I) upkeep → is_free_for (merged_day I P A) (merged_plan I P A) p maint ≡ (with_flight maint upkeep (option_map (flight_of I P p) (added_for A p))).free
  free_is p maint upkeep lt h =
      let M = merged_day I P A in
      let Q = merged_plan I P A in
      ap (λ (n : ℕ). none_below n (λ x. flies Q p x && meets_span (dep Q x) (arr M Q x) maint.from maint.to)) (merged_legs I P A)
      ∙ none_with p (λ x. meets_span (dep Q x) (arr M Q x) maint.from maint.to) (λ x. meets_span (dep P x) (arr I P x) maint.from maint.to) lt (λ x below.
      ap (λ (r : Row). meets_span (departure r) (departure r + (leg_at M x).block) maint.from maint.to) (row_old I P A all x below)
      ∙ ap (λ (info : LegInfo). meets_span (dep P x) (dep P x + info.block) maint.from maint.to) (old_leg I P A x below))
      ∙ ap (λ (b : Bool). b && none_new (added_for A p) (meets_span (dep Q (legs_of I + p)) (arr M Q (legs_of I + p)) maint.from maint.to)) (sym h.free)
      ∙ free_by p maint upkeep (added_for A p) lt refl

  minutes_is : (p : ℕ) (maint : Maint) (upkeep : Upkeep) → p < planes_of I → IsUpkeep I P p maint (legs_of I) upkeep → minutes_before (merged_day I P A) (merged_plan I P A) p maint.from.0 ≡ (with_flight maint upkeep (option_map (flight_of I P p) (added_for A p))).minutes
  minutes_is p maint upkeep lt h =
      let M = merged_day I P A in
      let Q = merged_plan I P A in
      ap (λ (n : ℕ). sum_by (λ x. cond (flies Q p x && ltb (dep Q x) maint.from.0) (leg_at M x).block 0) (numbers n)) (merged_legs I P A)
      ∙ sum_with p (λ x. ltb (dep Q x) maint.from.0) (λ x. ltb (dep P x) maint.from.0) lt (λ x below. ap (λ (r : Row). ltb (departure r) maint.from.0) (row_old I P A all x below))
      ∙ ap (λ (k : ℕ). k + amount_new (added_for A p) (cond (ltb (dep Q (legs_of I + p)) maint.from.0) (leg_at M (legs_of I + p)).block 0)) (sym h.minutes)
      ∙ minutes_by p maint upkeep (added_for A p) lt refl

  left_is : (p : ℕ) (at airport : ℕ) (last : Option Leg) (flight : Option Flight) → p < planes_of I → flight ≡ option_map (flight_of I P p) (added_for A p) → IsLastOf P p at (legs_of I) last → is_left_at (merged_day I P A) (merged_plan I P A) p at airport ≡ eqb (stand_with I P p at last flight).0 airport
  left_is p at airport last flight lt is h =
      let M = merged_day I P A in
      let Q = merged_plan I P A in
      let now = later I P p at last (added_for A p) in
      left_asked M Q p at airport now (subst (λ (n : ℕ). IsLastOf Q p at n now) (sym (merged_legs I P A)) (last_before I P A all p at last lt h))
      ∙ ap (λ (there : Airport). eqb there.0 airport) (later_stand I P A p at last flight lt is (last_in I P p at last h))

  makes_is : (p : ℕ) (upkeep : Upkeep) (last : Option Leg) (flight : Option Flight) (planned : Option Maint) → p < planes_of I → flight ≡ option_map (flight_of I P p) (added_for A p) → ForSome planned (λ maint. IsUpkeep I P p maint (legs_of I) upkeep) → IsLastOf P p (start_of planned) (legs_of I) last → makes_maintenance (merged_day I P A) (merged_plan I P A) p planned ≡ makes_it I P p upkeep last flight planned
  makes_is p upkeep last flight None lt is h l = refl
  makes_is p upkeep last flight (Some maint) lt is h l =
      let M = merged_day I P A in
      let Q = merged_plan I P A in
      let said = h maint refl in
      ap (λ (b : Bool). b || (is_free_for M Q p maint && is_left_at M Q p maint.from.0 maint.airport.0)) (stops_is p maint upkeep lt said ∙ ap (λ (f : Option Flight). (with_flight maint upkeep f).stops) (sym is))
      ∙ ap (λ (b : Bool). (with_flight maint upkeep flight).stops || (b && is_left_at M Q p maint.from.0 maint.airport.0)) (free_is p maint upkeep lt said ∙ ap (λ (f : Option Flight). (with_flight maint upkeep f).free) (sym is))
      ∙ ap (λ (b : Bool). (with_flight maint upkeep flight).stops || ((with_flight maint upkeep flight).free && b)) (left_is p maint.from.0 maint.airport.0 last flight lt is l)

  pub c8_is : (p : ℕ) (upkeep : Upkeep) (last : Option Leg) (flight : Option Flight) → p < planes_of I → flight ≡ option_map (flight_of I P p) (added_for A p) → ForSome (plane_at I p).maint (λ maint. IsUpkeep I P p maint (legs_of I) upkeep) → IsLastOf P p (start_of (plane_at I p).maint) (legs_of I) last → keeps_c8 (merged_day I P A) (merged_plan I P A) p ≡ ((plane_at I p).surface || makes_it I P p upkeep last flight (plane_at I p).maint)
  unfolding keeps_c8
  c8_is p upkeep last flight lt is h l = ap (λ (b : Bool). (plane_at I p).surface || b) (makes_is p upkeep last flight (plane_at I p).maint lt is h l)

  within_is : (p : ℕ) (upkeep : Upkeep) (flight : Option Flight) (planned : Option Maint) → p < planes_of I → flight ≡ option_map (flight_of I P p) (added_for A p) → ForSome planned (λ maint. IsUpkeep I P p maint (legs_of I) upkeep) → is_within_minutes (merged_day I P A) (merged_plan I P A) p planned ≡ is_within upkeep flight planned
  within_is p upkeep flight None lt is h = refl
  within_is p upkeep flight (Some maint) lt is h =
      ap (λ (k : ℕ). leb k maint.minutes) (minutes_is p maint upkeep lt (h maint refl) ∙ ap (λ (f : Option Flight). (with_flight maint upkeep f).minutes) (sym is))

  pub c9_is : (p : ℕ) (upkeep : Upkeep) (flight : Option Flight) → p < planes_of I → flight ≡ option_map (flight_of I P p) (added_for A p) → ForSome (plane_at I p).maint (λ maint. IsUpkeep I P p maint (legs_of I) upkeep) → keeps_c9 (merged_day I P A) (merged_plan I P A) p ≡ ((plane_at I p).surface || is_within upkeep flight (plane_at I p).maint)
  unfolding keeps_c9
  c9_is p upkeep flight lt is h = ap (λ (b : Bool). (plane_at I p).surface || b) (within_is p upkeep flight (plane_at I p).maint lt is h)

-- the minutes of all legs fit
pub few_minutes : (I : Situation) (P : PlanRows) (p : ℕ) (upkeep : Upkeep) (planned : Option Maint) → IsValid I → ForSome planned (λ maint. IsUpkeep I P p maint (legs_of I) upkeep) → ForSome planned (λ maint. upkeep.minutes ≤ 2880 * 20000)
few_minutes I P p upkeep planned valid h = λ maint is. (let said = h maint is in omega (arith, said.few, valid.parts.few.legs))

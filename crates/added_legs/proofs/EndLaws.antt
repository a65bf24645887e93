-- Where aircraft end with their added legs, and what is missing then.
use Rattle.std.proofs.Common.{◌≡◌, ℕ, ◌+◌, ◌-◌, ◌<◌, Bool, true, false, not, ◌&&◌, cond, eqb, ltb, List, [], ◌∷◌, length, get_or, refl, sym, ap, subst, ◌∙◌, arith, add-one, length-append}
use Rattle.std.proofs.Math.Path.{fun_ext}
use Rattle.std.proofs.lemmas.Bool.{and_from}
use Rattle.std.specs.Prelude.{Option, Some, None, filter, sum_by}
use Rattle.std.specs.Option.{ForSome, option_map}
use Rattle.desk_units.specs.declared.numbers.Airport.{Airport}
use Rattle.desk_units.specs.declared.numbers.Leg.{Leg}
use Rattle.desk_units.specs.declared.tariff.Term.TheVariants as term
use Rattle.tariff_prices.specs.Prices.{position_price}
use Rattle.desk_data.specs.declared.info.PositionInfo.{PositionInfo}
use Rattle.desk_data.specs.declared.info.LegInfo.{LegInfo}
use Rattle.desk_data.specs.Situation.{Situation, legs_of, planes_of, plane_at}
use Rattle.desk_data.specs.PlanRows.{PlanRows}
use Rattle.desk_rules.specs.Numbers.{numbers}
use Rattle.desk_rules.specs.Least.{leg}
use Rattle.desk_rules.specs.Cost.{rows_of, weight, by_item, is_wanted, ends_at, at_hand, missing_aircraft, position_cost}
use Rattle.plan_reads.specs.Last.{AreLasts, IsLastOf, stand}
use Rattle.plan_reads.proofs.LastLaws.{last_in, left_asked}
use Rattle.plan_checks.specs.Stands.{is_there, AreStands}
use Rattle.added_legs.specs.declared.added.Added.{Added}
use Rattle.added_legs.specs.Merged.{added_for, leg_for, merged_day, merged_plan}
use Rattle.added_legs.proofs.MergedLaws.{old_leg, new_leg, merged_legs}
use Rattle.added_legs.specs.declared.flight.Flight.{Flight}
use Rattle.added_legs.specs.Flights.{flight_of, AreFlights}
use Rattle.added_legs.specs.Stands.{is_after, stand_with, end_with, hand_by, missing_by, position_by, AreEnds}
use Rattle.added_legs.proofs.LastLaws.{later, last_before}
use Rattle.added_legs.proofs.SumLaws.{filter_more, filter_same}

-- ---- where an aircraft stands

module _ (I : Situation) (P : PlanRows) (A : List Added) where
  pub old_stand : (p : ℕ) (last : Option Leg) → ForSome last (λ leg. leg.0 < legs_of I) → stand (merged_day I P A) p last ≡ stand I p last
  old_stand p None within = refl
  old_stand p (Some l) within = ap (λ (info : LegInfo). info.dest) (old_leg I P A l.0 (within l refl))

  stand_if : (p : ℕ) (last : Option Leg) (a : Added) (b : Bool) → p < planes_of I → added_for A p ≡ Some a → ForSome last (λ leg. leg.0 < legs_of I) → stand (merged_day I P A) p (cond b (Some (leg (legs_of I + p))) last) ≡ cond b a.dest (stand I p last)
  stand_if p last a true lt is within = ap (λ (info : LegInfo). info.dest) (new_leg I P A p lt ∙ ap (leg_for I P p) is)
  stand_if p last a false lt is within = old_stand p last within

  stand_by : (p at : ℕ) (last : Option Leg) (o : Option Added) → p < planes_of I → added_for A p ≡ o → ForSome last (λ leg. leg.0 < legs_of I) → stand (merged_day I P A) p (later I P p at last o) ≡ stand_with I P p at last (option_map (flight_of I P p) o)
  stand_by p at last None lt is within = old_stand p last within
  stand_by p at last (Some a) lt is within = stand_if p last a (ltb a.dep.0 at && is_after P last a.dep.0) lt is within

  -- the last leg of the merged plan leaves the aircraft there
  pub later_stand : (p at : ℕ) (last : Option Leg) (flight : Option Flight) → p < planes_of I → flight ≡ option_map (flight_of I P p) (added_for A p) → ForSome last (λ leg. leg.0 < legs_of I) → stand (merged_day I P A) p (later I P p at last (added_for A p)) ≡ stand_with I P p at last flight
  later_stand p at last flight lt is within = stand_by p at last (added_for A p) lt refl within ∙ ap (stand_with I P p at last) (sym is)

-- ---- where it ends

there_if : (surface : Bool) (there : Airport) (airport : ℕ) → is_there (cond surface None (Some there)) airport ≡ (not surface && eqb there.0 airport)
there_if true there airport = refl
there_if false there airport = refl

ends_in : (I : Situation) (P : PlanRows) (A : List Added) (all : length P.rows ≡ legs_of I) (lasts : List (Option Leg)) (flights : List (Option Flight)) (p airport : ℕ) → p < planes_of I → AreLasts I P (λ p. I.parts.to.0) (legs_of I) lasts → AreFlights I P A flights → is_there (end_with I P p (get_or lasts p None) (get_or flights p None)) airport ≡ ends_at (merged_day I P A) (merged_plan I P A) p airport
ends_in I P A all lasts flights p airport lt h g =
    let M = merged_day I P A in
    let Q = merged_plan I P A in
    let at = I.parts.to.0 in
    let last = get_or lasts p None in
    let flight = get_or flights p None in
    let now = later I P p at last (added_for A p) in
    let is_last : IsLastOf Q p at (legs_of M) now = subst (λ (n : ℕ). IsLastOf Q p at n now) (sym (merged_legs I P A)) (last_before I P A all p at last lt (h.each p lt)) in
    there_if (plane_at I p).surface (stand_with I P p at last flight) airport
    ∙ ap (λ (there : Airport). not (plane_at I p).surface && eqb there.0 airport) (sym (later_stand I P A p at last flight lt (g.each p lt) (last_in I P p at last (h.each p lt))))
    ∙ ap (λ (b : Bool). not (plane_at I p).surface && b) (sym (left_asked M Q p at airport now is_last))

pub ends_are : (I : Situation) (P : PlanRows) (A : List Added) (lasts : List (Option Leg)) (flights : List (Option Flight)) (stands : List (Option Airport)) → length P.rows ≡ legs_of I → AreLasts I P (λ p. I.parts.to.0) (legs_of I) lasts → AreFlights I P A flights → AreEnds I P lasts flights stands → AreStands (merged_day I P A) (merged_plan I P A) stands
ends_are I P A lasts flights stands all h g ends = record {
  planes = ends.planes;
  each = λ p airport lt. ap (λ (there : Option Airport). is_there there airport) (ends.each p lt) ∙ ends_in I P A all lasts flights p airport lt h g;
}

-- with no added legs aircraft end as in the plan
pub old_ends_are : (I : Situation) (P : PlanRows) (lasts : List (Option Leg)) (flights : List (Option Flight)) (stands : List (Option Airport)) → AreLasts I P (λ p. I.parts.to.0) (legs_of I) lasts → ((p : ℕ) → p < planes_of I → get_or flights p None ≡ None) → AreEnds I P lasts flights stands → AreStands I P stands
old_ends_are I P lasts flights stands h none ends = record {
  planes = ends.planes;
  each = λ p airport lt.
      let last = get_or lasts p None in
      ap (λ (there : Option Airport). is_there there airport) (ends.each p lt ∙ ap (end_with I P p last) (none p lt))
      ∙ there_if (plane_at I p).surface (stand I p last) airport
      ∙ ap (λ (b : Bool). not (plane_at I p).surface && b) (sym (left_asked I P p I.parts.to.0 airport last (h.each p lt)));
}

-- ---- how many are at hand

hand_more : (I : Situation) (stands : List (Option Airport)) (position : PositionInfo) (n : ℕ) (b : Bool) → (is_wanted position (plane_at I n) && is_there (get_or stands n None) position.airport.0) ≡ b → hand_by I stands position (n + 1) ≡ hand_by I stands position n + length (cond b (n ∷ []) [])
hand_more I stands position n b is =
    let test : ℕ → Bool = λ p. is_wanted position (plane_at I p) && is_there (get_or stands p None) position.airport.0 in
    ap (λ (k : ℕ). length (filter test (numbers k))) (add-one n)
    ∙ ap length (filter_more test n)
    ∙ length-append (filter test (numbers n)) (cond (test n) (n ∷ []) [])
    ∙ ap (λ (c : Bool). length (filter test (numbers n)) + length (cond c (n ∷ []) [])) is

pub hand_yes : (I : Situation) (stands : List (Option Airport)) (position : PositionInfo) (n : ℕ) → is_wanted position (plane_at I n) ≡ true → is_there (get_or stands n None) position.airport.0 ≡ true → hand_by I stands position (n + 1) ≡ hand_by I stands position n + 1
hand_yes I stands position n wants there = hand_more I stands position n true (and_from (is_wanted position (plane_at I n)) (is_there (get_or stands n None) position.airport.0) wants there)

pub hand_no : (I : Situation) (stands : List (Option Airport)) (position : PositionInfo) (n : ℕ) → (is_wanted position (plane_at I n) && is_there (get_or stands n None) position.airport.0) ≡ false → hand_by I stands position (n + 1) ≡ hand_by I stands position n
hand_no I stands position n off = hand_more I stands position n false off ∙ omega arith

-- ---- what is missing

hand_is : (J : Situation) (R : PlanRows) (stands : List (Option Airport)) (position : PositionInfo) → AreStands J R stands → hand_by J stands position (planes_of J) ≡ at_hand J R position
hand_is J R stands position h =
    ap length (filter_same (λ p. is_wanted position (plane_at J p) && is_there (get_or stands p None) position.airport.0) (λ p. is_wanted position (plane_at J p) && ends_at J R p position.airport.0) (planes_of J)
    (λ p lt. ap (λ (b : Bool). is_wanted position (plane_at J p) && b) (h.each p position.airport.0 lt)))

missing_is : (J : Situation) (R : PlanRows) (stands : List (Option Airport)) (position : PositionInfo) → AreStands J R stands → missing_by J stands position ≡ missing_aircraft J R position
unfolding missing_aircraft
missing_is J R stands position h = ap (λ (hand : ℕ). by_item (weight J term.Position) (position_price (rows_of J)) (position.count - hand)) (hand_is J R stands position h)

pub position_is : (J : Situation) (R : PlanRows) (stands : List (Option Airport)) → AreStands J R stands → position_by J stands ≡ position_cost J R
unfolding position_by position_cost
position_is J R stands h = ap (λ (f : PositionInfo → ℕ). sum_by f J.parts.positions) (fun_ext (λ position. missing_is J R stands position h))

-- the merged day has the aircraft, the positions and the prices of the day
pub same_positions : (I : Situation) (P : PlanRows) (A : List Added) (stands : List (Option Airport)) → position_by (merged_day I P A) stands ≡ position_by I stands
unfolding position_by
same_positions I P A stands = refl

-- What is kept, as aircraft are counted at first, and as one more leg is added.
use Rattle.std.proofs.Common.{◌≡◌, ◌≢◌, ℕ, ◌+◌, ◌-◌, ◌<◌, ◌≤◌, Bool, true, false, eqb, List, [], length, get_or, set, map, sym, ap, subst, ◌∙◌, arith}
use Rattle.std.specs.Prelude.{Option, None, All, count_by, unwrap_or}
use Rattle.std.proofs.lemmas.List.{length-map, get_or_default}
use Rattle.std.proofs.lemmas.List.Sums.{length-filter, count_by-le-length}
use Rattle.desk_units.specs.declared.numbers.Airport.{Airport}
use Rattle.desk_units.specs.declared.numbers.Leg.{Leg}
use Rattle.desk_data.specs.declared.info.PlaneInfo.{PlaneInfo}
use Rattle.desk_data.specs.declared.info.PositionInfo.{PositionInfo}
use Rattle.desk_data.specs.Situation.{Situation, legs_of, planes_of, airports_of, plane_at, distance}
use Rattle.desk_data.specs.PlanRows.{PlanRows}
use Rattle.desk_data.specs.Valid.{IsValid, IsPlanFor}
use Rattle.plan_reads.specs.Last.{IsLastOf, stand, AreLasts}
use Rattle.added_legs.specs.declared.added.Added.{Added}
use Rattle.added_legs.specs.Merged.{plane_end, minutes_to, added_for, merged_day, merged_plan}
use Rattle.added_legs.specs.Added.{cost_added}
use Rattle.added_legs.specs.Ferried.{with_added}
use Rattle.added_legs.proofs.FlightLaws.{are_last}
use Rattle.desk_rules.specs.Cost.{operating_cost, position_cost}
use Rattle.ferry_legs.specs.declared.wanted.Wanted.{Wanted}
use Rattle.ferry_legs.specs.Positions.{positions_at, with_hand, ArePositions, hand_of_first, gained, lost, with_one_more, with_one_less}
use Rattle.ferry_legs.specs.Prices.{nowhere, AreEnds, at_hand_with, IsInTime, flying_cost, missing_cost}
use Rattle.ferry_legs.proofs.SumLaws.{one_if}
use Rattle.ferry_legs.proofs.HandLaws.{is_at, hand_changes, hand_held, hand_at_first, hand_surface, hand_air, hand_few, at_hand_few}
use Rattle.ferry_legs.proofs.CostLaws.{operating_changes, position_same, position_changes, cost_changes}
use Rattle.ferry_legs.proofs.PositionLaws.{positions_same, is_there, leaves, comes, few_at}

-- ---- where aircraft end

pub ends_are : (I : Situation) (P : PlanRows) (lasts : List (Option Leg)) (ends : List Airport) → IsPlanFor I P → AreLasts I P (λ p. 52500000) (legs_of I) lasts → length ends ≡ planes_of I → ((p : ℕ) → p < planes_of I → get_or ends p nowhere ≡ stand I p (get_or lasts p None)) → ((p : ℕ) → p < planes_of I → (get_or ends p nowhere).0 < airports_of I) → AreEnds I P ends
unfolding plane_end
ends_are I P lasts ends plan are all each within = record {
  planes = all;
  each = λ p lt. each p lt ∙ ap (stand I p) (sym ((are_last I P lasts plan are).each p lt));
  within = within;
}

-- what is read of a list, whatever is given where it ends
end_here : (I : Situation) (P : PlanRows) (ends : List Airport) (p : ℕ) (end : Airport) → AreEnds I P ends → p < planes_of I → end ≡ get_or ends p end → end ≡ get_or ends p nowhere
end_here I P ends p end are lt is = is ∙ sym (get_or_default ends p nowhere end (omega (arith, are.planes, lt)))

pub end_is : (I : Situation) (P : PlanRows) (ends : List Airport) (p : ℕ) (end : Airport) → AreEnds I P ends → p < planes_of I → end ≡ get_or ends p end → end ≡ plane_end I P p
end_is I P ends p end are lt is = end_here I P ends p end are lt is ∙ are.each p lt

pub end_within : (I : Situation) (P : PlanRows) (ends : List Airport) (p : ℕ) (end : Airport) → AreEnds I P ends → p < planes_of I → end ≡ get_or ends p end → end.0 < airports_of I
end_within I P ends p end are lt is = subst (λ (there : Airport). there.0 < airports_of I) (sym (end_here I P ends p end are lt is)) (are.within p lt)

-- ---- the aircraft at first

pub surface_plane : (I : Situation) (P : PlanRows) (p : ℕ) (airports : List (List Wanted)) → (plane_at I p).surface ≡ true → ArePositions I (hand_of_first p I P) airports → ArePositions I (hand_of_first (p + 1) I P) airports
surface_plane I P p airports surface are = positions_same I (hand_of_first p I P) (hand_of_first (p + 1) I P) airports (λ position. sym (hand_surface I P position p surface)) are

pub one_plane : (I : Situation) (P : PlanRows) (p : ℕ) (last : Option Leg) (plane : PlaneInfo) (end : Airport) (airports now : List (List Wanted)) → plane ≡ plane_at I p → end ≡ stand I p last → end.0 < airports_of I → (plane_at I p).surface ≡ false → IsLastOf P p I.parts.to.0 (legs_of I) last → now ≡ set airports end.0 (map (with_one_more plane) (get_or airports end.0 [])) → ArePositions I (hand_of_first p I P) airports → ArePositions I (hand_of_first (p + 1) I P) now
one_plane I P p last plane end airports now row there within air h is are =
    subst (ArePositions I (hand_of_first (p + 1) I P)) (sym is)
    (positions_same I (λ position. hand_of_first p I P position + one_if (is_there plane end.0 position)) (hand_of_first (p + 1) I P) (set airports end.0 (map (with_one_more plane) (get_or airports end.0 [])))
    (λ position.
    ap (λ (info : PlaneInfo). hand_of_first p I P position + one_if (is_there info end.0 position)) row
    ∙ ap (λ (a : Airport). hand_of_first p I P position + one_if (is_at I position p a.0)) there
    ∙ sym (hand_air I P position p last air h))
    (comes I (hand_of_first p I P) airports plane end.0 within are))

pub few_first : (I : Situation) (P : PlanRows) (p : ℕ) (airports : List (List Wanted)) (b : ℕ) → b < airports_of I → p < 1000 → ArePositions I (hand_of_first p I P) airports → All (λ w. w.at_hand < 2000) (get_or airports b [])
few_first I P p airports b within few are = few_at I (hand_of_first p I P) airports b within (λ position. omega (arith, few, hand_few p I P position)) are

pub all_planes : (I : Situation) (P : PlanRows) (p : ℕ) (airports : List (List Wanted)) → IsPlanFor I P → p ≡ planes_of I → ArePositions I (hand_of_first p I P) airports → ArePositions I (at_hand_with I P []) airports
all_planes I P p airports plan is are =
    positions_same I (hand_of_first (planes_of I) I P) (at_hand_with I P []) airports (λ position. hand_at_first I P position plan)
    (subst (λ (n : ℕ). ArePositions I (hand_of_first n I P) airports) is are)

-- ---- one more leg

-- there are few positions at an airport
pub rows_few : (I : Situation) (hand : PositionInfo → ℕ) (airports : List (List Wanted)) (b : ℕ) → IsValid I → b < airports_of I → ArePositions I hand airports → length (get_or airports b []) ≤ 10000
rows_few I hand airports b valid lt are =
    let here : PositionInfo → Bool = λ position. eqb position.airport.0 b in
    let long : length (get_or airports b []) ≡ length (positions_at I.parts.positions b) = ap length (are.each b lt) ∙ length-map (positions_at I.parts.positions b) (with_hand hand) in
    let kept : length (positions_at I.parts.positions b) ≡ count_by here I.parts.positions = length-filter here I.parts.positions in
    omega (arith, long, kept, count_by-le-length here I.parts.positions, valid.parts.few.positions)

module _ (I : Situation) (P : PlanRows) (plan : IsPlanFor I P) (A : List Added) (a : Added) (lt : a.plane.0 < planes_of I) (air : (plane_at I a.plane.0).surface ≡ false) (none : added_for A a.plane.0 ≡ None) (time : IsInTime I P a.plane.0 a.dep.0) where
  -- what it costs to fly, by the minutes to its destination
  flown : (from : Airport) (minutes flying : ℕ) → from ≡ plane_end I P a.plane.0 → minutes ≡ unwrap_or (distance I from.0 a.dest.0) 0 → flying ≡ flying_cost I a.plane.0 minutes → operating_cost (merged_day I P (with_added A a)) (merged_plan I P (with_added A a)) ≡ operating_cost (merged_day I P A) (merged_plan I P A) + flying
  flown from minutes flying is way cost =
      let same : flying ≡ flying_cost I a.plane.0 (minutes_to I P a.plane.0 a.dest) = cost ∙ ap (flying_cost I a.plane.0) (way ∙ ap (λ (there : Airport). unwrap_or (distance I there.0 a.dest.0) 0) is) in
      operating_changes I P plan A a lt none ∙ ap (λ (k : ℕ). operating_cost (merged_day I P A) (merged_plan I P A) + k) (sym same)

  -- to where the aircraft ends
  pub change_here : (from : Airport) (minutes flying : ℕ) → from ≡ plane_end I P a.plane.0 → minutes ≡ unwrap_or (distance I from.0 a.dest.0) 0 → flying ≡ flying_cost I a.plane.0 minutes → from.0 ≡ a.dest.0 → cost_added I P (with_added A a) + 0 ≡ cost_added I P A + flying
  change_here from minutes flying is way cost same =
      let B = with_added A a in
      let stays : position_cost (merged_day I P B) (merged_plan I P B) + 0 ≡ position_cost (merged_day I P A) (merged_plan I P A) + 0 = omega (arith, position_same I P plan A a lt air none time (ap (λ (there : Airport). there.0) (sym is) ∙ same)) in
      omega (arith, cost_changes I P A B flying 0 0 (flown from minutes flying is way cost) stays)

  -- to another airport
  pub change_apart : (from : Airport) (minutes flying : ℕ) (plane : PlaneInfo) (here there : List Wanted) (gone won more less : ℕ) → from ≡ plane_end I P a.plane.0 → minutes ≡ unwrap_or (distance I from.0 a.dest.0) 0 → flying ≡ flying_cost I a.plane.0 minutes → from.0 ≢ a.dest.0 → plane ≡ plane_at I a.plane.0 → here ≡ map (with_hand (at_hand_with I P A)) (positions_at I.parts.positions from.0) → there ≡ map (with_hand (at_hand_with I P A)) (positions_at I.parts.positions a.dest.0) → gone ≡ missing_cost I (lost plane here) → won ≡ missing_cost I (gained plane there) → more ≡ flying + gone → less ≡ won → cost_added I P (with_added A a) + less ≡ cost_added I P A + more
  change_apart from minutes flying plane here there gone won more less is way cost apart row at_from at_dest is_gone is_won is_more is_less =
      let B = with_added A a in
      let hand = at_hand_with I P A in
      let leaves_it : gone ≡ missing_cost I (lost (plane_at I a.plane.0) (map (with_hand hand) (positions_at I.parts.positions (plane_end I P a.plane.0).0))) =
      is_gone ∙ ap (λ (info : PlaneInfo). missing_cost I (lost info here)) row ∙ ap (λ (rows : List Wanted). missing_cost I (lost (plane_at I a.plane.0) rows)) at_from
      ∙ ap (λ (b : Airport). missing_cost I (lost (plane_at I a.plane.0) (map (with_hand hand) (positions_at I.parts.positions b.0)))) is in
      let comes_to : won ≡ missing_cost I (gained (plane_at I a.plane.0) (map (with_hand hand) (positions_at I.parts.positions a.dest.0))) =
      is_won ∙ ap (λ (info : PlaneInfo). missing_cost I (gained info there)) row ∙ ap (λ (rows : List Wanted). missing_cost I (gained (plane_at I a.plane.0) rows)) at_dest in
      let moves : position_cost (merged_day I P B) (merged_plan I P B) + won ≡ position_cost (merged_day I P A) (merged_plan I P A) + gone =
      ap (λ (k : ℕ). position_cost (merged_day I P B) (merged_plan I P B) + k) comes_to
      ∙ position_changes I P plan A a lt air none time (λ same. apart (ap (λ (b : Airport). b.0) is ∙ same))
      ∙ ap (λ (k : ℕ). position_cost (merged_day I P A) (merged_plan I P A) + k) (sym leaves_it) in
      omega (arith, cost_changes I P A B flying won gone (flown from minutes flying is way cost) moves, is_more, is_less)

  -- the positions after it
  pub positions_after : (from : Airport) (plane : PlaneInfo) (airports mid now : List (List Wanted)) → from ≡ plane_end I P a.plane.0 → plane ≡ plane_at I a.plane.0 → from.0 < airports_of I → a.dest.0 < airports_of I → mid ≡ set airports from.0 (map (with_one_less plane) (get_or airports from.0 [])) → now ≡ set mid a.dest.0 (map (with_one_more plane) (get_or mid a.dest.0 [])) → ArePositions I (at_hand_with I P A) airports → ArePositions I (at_hand_with I P (with_added A a)) now
  positions_after from plane airports mid now is row within within_dest left came are =
      let hand = at_hand_with I P A in
      let less : PositionInfo → ℕ = λ position. hand position - one_if (is_there plane from.0 position) in
      let are_mid : ArePositions I less mid = subst (ArePositions I less) (sym left) (leaves I hand airports plane from.0 within are) in
      subst (ArePositions I (at_hand_with I P (with_added A a))) (sym came)
      (positions_same I (λ position. less position + one_if (is_there plane a.dest.0 position)) (at_hand_with I P (with_added A a)) (set mid a.dest.0 (map (with_one_more plane) (get_or mid a.dest.0 [])))
      (λ position.
      let was : one_if (is_there plane from.0 position) ≡ one_if (is_at I position a.plane.0 (plane_end I P a.plane.0).0) =
      ap (λ (info : PlaneInfo). one_if (is_there info from.0 position)) row ∙ ap (λ (b : Airport). one_if (is_at I position a.plane.0 b.0)) is in
      let will : one_if (is_there plane a.dest.0 position) ≡ one_if (is_at I position a.plane.0 a.dest.0) = ap (λ (info : PlaneInfo). one_if (is_there info a.dest.0 position)) row in
      omega (arith, was, will, hand_changes I P plan A a lt air none time position, hand_held I P plan A a lt air none time position))
      (comes I less mid plane a.dest.0 within_dest are_mid))

-- few aircraft are at hand where it arrives
pub few_after : (I : Situation) (P : PlanRows) (A : List Added) (plane : PlaneInfo) (from b : ℕ) (airports mid : List (List Wanted)) → IsValid I → from < airports_of I → b < airports_of I → mid ≡ set airports from (map (with_one_less plane) (get_or airports from [])) → ArePositions I (at_hand_with I P A) airports → All (λ w. w.at_hand < 2000) (get_or mid b [])
few_after I P A plane from b airports mid valid within lt left are =
    let hand = at_hand_with I P A in
    let less : PositionInfo → ℕ = λ position. hand position - one_if (is_there plane from position) in
    few_at I less mid b lt (λ position. omega (arith, at_hand_few I P A position, valid.parts.few.planes))
    (subst (ArePositions I less) (sym left) (leaves I hand airports plane from within are))

-- What one more added leg changes of the cost: what it costs to fly, and what is missing.
use Rattle.std.proofs.Common.{◌≡◌, ◌≢◌, ℕ, ◌+◌, ◌-◌, ◌*◌, ◌^◌, ◌<◌, ◌≤◌, inl, inr, false, ◌&&◌, eqb, List, [], ◌∷◌, length, get_or, map, refl, sym, ap, subst, ◌∙◌, arith}
use Rattle.std.specs.Prelude.{Option, Some, None, sum_by, unwrap_or}
use Rattle.std.specs.List.{All}
use Rattle.std.proofs.Math.Nat.{mul-add, mul-le-mul_right}
use Rattle.std.proofs.lemmas.Bool.{cases_lt}
use Rattle.std.proofs.lemmas.List.{get_or_past}
use Rattle.std.proofs.lemmas.List.Sums.{sum_by-cons, sum_by-le}
use Rattle.std.proofs.lemmas.List.Elements.{All-get_or}
use Rattle.desk_units.specs.declared.tariff.Term.TheVariants as term
use Rattle.tariff_prices.specs.Rows.{IsPrice}
use Rattle.tariff_prices.specs.Prices.{position_price}
use Rattle.tariff_prices.proofs.PriceLaws.{position_price-le}
use Rattle.desk_data.specs.declared.info.LegInfo.{LegInfo}
use Rattle.desk_data.specs.declared.info.PositionInfo.{PositionInfo}
use Rattle.desk_data.specs.declared.row.Row.{Row}
use Rattle.desk_data.specs.declared.row.Row.TheVariants.{Flown, Cancelled}
use Rattle.desk_data.specs.Situation.{Situation, legs_of, planes_of, airports_of, leg_at, plane_at, distance, no_leg, no_plane}
use Rattle.desk_data.specs.PlanRows.{PlanRows, row_at}
use Rattle.desk_data.specs.Valid.{IsValid, IsPlanFor, IsPlane, IsDistance}
use Rattle.desk_rules.specs.Numbers.{numbers}
use Rattle.desk_rules.specs.Cost.{rows_of, weight, by_hour, is_wanted, operating_of, operating, operating_cost, missing_aircraft, position_cost, cost}
use Rattle.desk_rules.proofs.HourLaws.{block_le}
use Rattle.desk_rules.proofs.CostLaws.{sum-le, weight-le, by_hour-le, by_item-le}
use Rattle.added_legs.specs.declared.added.Added.{Added}
use Rattle.added_legs.specs.Merged.{plane_end, minutes_to, added_for, leg_for, row_for, merged_day, merged_plan}
use Rattle.added_legs.specs.Added.{cost_added}
use Rattle.added_legs.specs.Ferried.{with_added}
use Rattle.added_legs.proofs.MergedLaws.{old_leg, new_leg, old_row, new_row, merged_legs}
use Rattle.added_legs.proofs.CostLaws.{cost-room}
use Rattle.added_legs.proofs.LastLaws.{is_old_or_new}
use Rattle.ferry_legs.specs.Positions.{positions_at, with_hand, is_gained, is_lost, gained, lost}
use Rattle.ferry_legs.specs.Prices.{at_hand_with, IsInTime, flying_cost, missing_cost}
use Rattle.ferry_legs.proofs.SumLaws.{one_if, sum_change, sums_balance, count_kept}
use Rattle.ferry_legs.proofs.EndLaws.{for_other, for_new}
use Rattle.ferry_legs.proofs.HandLaws.{is_at, hand_changes, missing_changes}

-- ---- what a leg costs to fly

by_leg : Situation → LegInfo → Row → ℕ
by_leg I info (Flown plane dep) = by_hour (weight I term.Operating) (plane_at I plane.0).hourly.0 info.block
by_leg I info Cancelled = 0

operating_is : (I : Situation) (P : PlanRows) (A : List Added) (x : ℕ) (row : Row) → operating_of (merged_day I P A) x row ≡ by_leg I (leg_at (merged_day I P A) x) row
unfolding by_leg
operating_is I P A x (Flown plane dep) = refl
operating_is I P A x Cancelled = refl

module _ (I : Situation) (P : PlanRows) (plan : IsPlanFor I P) (A : List Added) (a : Added) (lt : a.plane.0 < planes_of I) (none : added_for A a.plane.0 ≡ None) where
  -- another leg costs what it cost
  other_leg : (x : ℕ) → x < legs_of I + planes_of I → x ≢ legs_of I + a.plane.0 → operating (merged_day I P (with_added A a)) (merged_plan I P (with_added A a)) x ≡ operating (merged_day I P A) (merged_plan I P A) x
  other_leg x below apart =
      let B = with_added A a in
      let all = plan.legs in
      let same : (leg_at (merged_day I P B) x ≡ leg_at (merged_day I P A) x) × (row_at (merged_plan I P B) x ≡ row_at (merged_plan I P A) x) = elim (is_old_or_new (legs_of I) (planes_of I) x below) [
        | inl old ↦ (old_leg I P B x old ∙ sym (old_leg I P A x old), old_row I P B x (omega (arith, all, old)) ∙ sym (old_row I P A x (omega (arith, all, old))))
        | inr new ↦
            let q = new.0 in
            let other : added_for B q ≡ added_for A q = for_other A a q (λ e. apart (new.2 ∙ ap (λ (k : ℕ). legs_of I + k) e)) in (
              ap (λ (y : ℕ). leg_at (merged_day I P B) y) new.2 ∙ new_leg I P B q new.1 ∙ ap (leg_for I P q) other ∙ sym (new_leg I P A q new.1) ∙ ap (λ (y : ℕ). leg_at (merged_day I P A) y) (sym new.2),
              ap (λ (y : ℕ). row_at (merged_plan I P B) y) new.2 ∙ new_row I P B q all new.1 ∙ ap (row_for q) other ∙ sym (new_row I P A q all new.1) ∙ ap (λ (y : ℕ). row_at (merged_plan I P A) y) (sym new.2),
            )
      ] in
      operating_is I P B x (row_at (merged_plan I P B) x)
      ∙ ap (λ (info : LegInfo). by_leg I info (row_at (merged_plan I P B) x)) same.0
      ∙ ap (by_leg I (leg_at (merged_day I P A) x)) same.1
      ∙ sym (operating_is I P A x (row_at (merged_plan I P A) x))

  -- the leg of the aircraft cost nothing
  no_leg_cost : operating (merged_day I P A) (merged_plan I P A) (legs_of I + a.plane.0) ≡ 0
  no_leg_cost = ap (operating_of (merged_day I P A) (legs_of I + a.plane.0)) (new_row I P A a.plane.0 plan.legs lt ∙ ap (row_for a.plane.0) none)

  new_leg_cost : operating (merged_day I P (with_added A a)) (merged_plan I P (with_added A a)) (legs_of I + a.plane.0) ≡ flying_cost I a.plane.0 (minutes_to I P a.plane.0 a.dest)
  new_leg_cost =
      let B = with_added A a in
      let p = a.plane.0 in
      ap (operating_of (merged_day I P B) (legs_of I + p)) (new_row I P B p plan.legs lt ∙ ap (row_for p) (for_new A a none))
      ∙ ap (λ (info : LegInfo). by_hour (weight I term.Operating) (plane_at I p).hourly.0 info.block) (new_leg I P B p lt ∙ ap (leg_for I P p) (for_new A a none))

  pub operating_changes : operating_cost (merged_day I P (with_added A a)) (merged_plan I P (with_added A a)) ≡ operating_cost (merged_day I P A) (merged_plan I P A) + flying_cost I a.plane.0 (minutes_to I P a.plane.0 a.dest)
  unfolding operating_cost
  operating_changes =
      let B = with_added A a in
      let f : ℕ → ℕ = operating (merged_day I P B) (merged_plan I P B) in
      let g : ℕ → ℕ = operating (merged_day I P A) (merged_plan I P A) in
      let n = legs_of I + planes_of I in
      let change : sum_by f (numbers n) + g (legs_of I + a.plane.0) ≡ sum_by g (numbers n) + f (legs_of I + a.plane.0) = sum_change f g n (legs_of I + a.plane.0) (omega (arith, lt)) other_leg in
      let before : g (legs_of I + a.plane.0) ≡ 0 = no_leg_cost in
      let after : sum_by f (numbers n) ≡ sum_by g (numbers n) + f (legs_of I + a.plane.0) = omega (arith, change, before) in
      let more : sum_by f (numbers n) ≡ sum_by g (numbers n) + flying_cost I a.plane.0 (minutes_to I P a.plane.0 a.dest) = after ∙ ap (λ (k : ℕ). sum_by g (numbers n) + k) new_leg_cost in
      ap (λ (k : ℕ). sum_by f (numbers k)) (merged_legs I P B) ∙ more
      ∙ ap (λ (k : ℕ). sum_by g (numbers k) + flying_cost I a.plane.0 (minutes_to I P a.plane.0 a.dest)) (sym (merged_legs I P A))

-- ---- what the missing aircraft cost

item_sum : (rate : ℕ) (f : PositionInfo → ℕ) (positions : List PositionInfo) → sum_by (λ position. rate * f position) positions ≡ rate * sum_by f positions
item_sum rate f [] = omega arith
item_sum rate f (p ∷ ps) =
    sum_by-cons (λ (position : PositionInfo). rate * f position) p ps
    ∙ ap (λ (n : ℕ). rate * f p + n) (item_sum rate f ps)
    ∙ sym (mul-add rate (f p) (sum_by f ps))
    ∙ ap (λ (n : ℕ). rate * n) (sym (sum_by-cons f p ps))

-- how many are missing over all positions
abbrev missing_in : Situation → (PositionInfo → ℕ) → ℕ
missing_in I hand = sum_by (λ position. position.count - hand position) I.parts.positions

position_is : (I : Situation) (P : PlanRows) (A : List Added) → position_cost (merged_day I P A) (merged_plan I P A) ≡ missing_cost I (missing_in I (at_hand_with I P A))
unfolding position_cost missing_aircraft
position_is I P A = item_sum (60 * weight I term.Position * position_price (rows_of I)) (λ position. position.count - at_hand_with I P A position) I.parts.positions

module _ (I : Situation) (P : PlanRows) (plan : IsPlanFor I P) (A : List Added) (a : Added) (lt : a.plane.0 < planes_of I) (air : (plane_at I a.plane.0).surface ≡ false) (none : added_for A a.plane.0 ≡ None) (time : IsInTime I P a.plane.0 a.dep.0) where
  -- an added leg to where the aircraft ends changes nothing of the positions
  pub position_same : (plane_end I P a.plane.0).0 ≡ a.dest.0 → position_cost (merged_day I P (with_added A a)) (merged_plan I P (with_added A a)) ≡ position_cost (merged_day I P A) (merged_plan I P A)
  position_same same =
      position_is I P (with_added A a)
      ∙ ap (missing_cost I) (
      let zero_sum : (position : PositionInfo) → (position.count - at_hand_with I P (with_added A a) position) + 0 ≡ (position.count - at_hand_with I P A position) + 0 = λ position.
      omega (arith, hand_changes I P plan A a lt air none time position, ap (λ (there : ℕ). one_if (is_at I position a.plane.0 there)) same) in
      let balance = sums_balance (λ (position : PositionInfo). position.count - at_hand_with I P (with_added A a) position) (λ (position : PositionInfo). 0) (λ (position : PositionInfo). position.count - at_hand_with I P A position) (λ (position : PositionInfo). 0) I.parts.positions zero_sum in
      (let all : missing_in I (at_hand_with I P (with_added A a)) ≡ missing_in I (at_hand_with I P A) = omega (arith, balance) in all)
      )
      ∙ sym (position_is I P A)

  -- where it leaves an airport for another one
  pub position_changes : (plane_end I P a.plane.0).0 ≢ a.dest.0 → position_cost (merged_day I P (with_added A a)) (merged_plan I P (with_added A a)) + missing_cost I (gained (plane_at I a.plane.0) (map (with_hand (at_hand_with I P A)) (positions_at I.parts.positions a.dest.0))) ≡ position_cost (merged_day I P A) (merged_plan I P A) + missing_cost I (lost (plane_at I a.plane.0) (map (with_hand (at_hand_with I P A)) (positions_at I.parts.positions (plane_end I P a.plane.0).0)))
  position_changes apart =
      let B = with_added A a in
      let from = (plane_end I P a.plane.0).0 in
      let hand = at_hand_with I P A in
      let plane = plane_at I a.plane.0 in
      let won : PositionInfo → ℕ = λ position. one_if (eqb position.airport.0 a.dest.0 && is_gained plane (with_hand hand position)) in
      let gone : PositionInfo → ℕ = λ position. one_if (eqb position.airport.0 from && is_lost plane (with_hand hand position)) in
      let rate = 60 * weight I term.Position * position_price (rows_of I) in
      let sums : missing_in I (at_hand_with I P B) + sum_by won I.parts.positions ≡ missing_in I hand + sum_by gone I.parts.positions =
      sums_balance (λ (position : PositionInfo). position.count - at_hand_with I P B position) won (λ (position : PositionInfo). position.count - hand position) gone I.parts.positions (λ position.
      missing_changes position (is_wanted position plane) from a.dest.0 (hand position) (at_hand_with I P B position) apart (hand_changes I P plan A a lt air none time position)) in
      let all_won : gained plane (map (with_hand hand) (positions_at I.parts.positions a.dest.0)) ≡ sum_by won I.parts.positions = count_kept (with_hand hand) (is_gained plane) (λ (position : PositionInfo). eqb position.airport.0 a.dest.0) I.parts.positions in
      let all_gone : lost plane (map (with_hand hand) (positions_at I.parts.positions from)) ≡ sum_by gone I.parts.positions = count_kept (with_hand hand) (is_lost plane) (λ (position : PositionInfo). eqb position.airport.0 from) I.parts.positions in
      let all : missing_in I (at_hand_with I P B) + gained plane (map (with_hand hand) (positions_at I.parts.positions a.dest.0)) ≡ missing_in I hand + lost plane (map (with_hand hand) (positions_at I.parts.positions from)) =
      omega (arith, sums, all_won, all_gone) in
      ap (λ (k : ℕ). k + missing_cost I (gained plane (map (with_hand hand) (positions_at I.parts.positions a.dest.0)))) (position_is I P B)
      ∙ sym (mul-add rate (missing_in I (at_hand_with I P B)) (gained plane (map (with_hand hand) (positions_at I.parts.positions a.dest.0))))
      ∙ ap (λ (k : ℕ). rate * k) all
      ∙ mul-add rate (missing_in I hand) (lost plane (map (with_hand hand) (positions_at I.parts.positions from)))
      ∙ ap (λ (k : ℕ). k + missing_cost I (lost plane (map (with_hand hand) (positions_at I.parts.positions from)))) (sym (position_is I P A))

-- ---- the sum

pub cost_changes : (I : Situation) (P : PlanRows) (A longer : List Added) (more won gone : ℕ) → operating_cost (merged_day I P longer) (merged_plan I P longer) ≡ operating_cost (merged_day I P A) (merged_plan I P A) + more → position_cost (merged_day I P longer) (merged_plan I P longer) + won ≡ position_cost (merged_day I P A) (merged_plan I P A) + gone → cost_added I P longer + won ≡ cost_added I P A + (more + gone)
unfolding cost_added
cost_changes I P A longer more won gone flying missing = omega (arith, flying, missing)

-- ---- the cost has room

hourly_le : (I : Situation) (p : ℕ) → IsValid I → IsPrice (plane_at I p).hourly.0
unfolding no_plane
hourly_le I p valid =
    elim (cases_lt p (planes_of I)) [
      | inl within ↦ (All-get_or (IsPlane (airports_of I)) I.parts.planes p no_plane within valid.parts.planes).hourly
      | inr past ↦ rw (get_or_past I.parts.planes p no_plane past) (omega arith)
    ]

way_le : (way : Option ℕ) → IsDistance way → unwrap_or way 0 ≤ 100000
way_le None short = omega arith
way_le (Some minutes) short = short minutes refl

distance_le : (I : Situation) (a b : ℕ) → IsValid I → unwrap_or (distance I a b) 0 ≤ 100000
distance_le I a b valid =
    elim (cases_lt a (length I.parts.dist)) [
      | inl row ↦ elim (cases_lt b (length (get_or I.parts.dist a []))) [
        | inl within ↦ way_le (distance I a b) (All-get_or IsDistance (get_or I.parts.dist a []) b None within (All-get_or (λ row. All IsDistance row) I.parts.dist a [] row valid.parts.dist))
        | inr past ↦ rw (get_or_past (get_or I.parts.dist a []) b None past) (omega arith)
      ]
      | inr past ↦ rw (get_or_past I.parts.dist a [] past) (omega arith)
    ]

module _ (I : Situation) (P : PlanRows) (A : List Added) (valid : IsValid I) where
  added_le : (p : ℕ) (o : Option Added) → (leg_for I P p o).block ≤ 100000
  unfolding no_leg
  added_le p None = omega arith
  added_le p (Some a) = distance_le I (plane_end I P p).0 a.dest.0 valid

  merged_le : (x : ℕ) → (leg_at (merged_day I P A) x).block ≤ 100000
  unfolding no_leg
  merged_le x =
      elim (cases_lt x (legs_of I + planes_of I)) [
        | inl below ↦ elim (is_old_or_new (legs_of I) (planes_of I) x below) [
          | inl old ↦ omega (arith, ap (λ (info : LegInfo). info.block) (old_leg I P A x old), block_le I x valid)
          | inr new ↦ omega (arith, ap (λ (y : ℕ). (leg_at (merged_day I P A) y).block) new.2, ap (λ (info : LegInfo). info.block) (new_leg I P A new.0 new.1), added_le new.0 (added_for A new.0))
        ]
        | inr past ↦
            let beyond : length (merged_day I P A).parts.legs ≤ x = omega (arith, merged_legs I P A, past) in
            omega (arith, ap (λ (info : LegInfo). info.block) (get_or_past (merged_day I P A).parts.legs x no_leg beyond))
      ]

  flown_le : (x : ℕ) (row : Row) → operating_of (merged_day I P A) x row ≤ 10 ^ 27
  flown_le x (Flown plane dep) =
      let le : operating_of (merged_day I P A) x (Flown plane dep) ≤ 10 ^ 22 * (leg_at (merged_day I P A) x).block = by_hour-le (weight I term.Operating) (plane_at I plane.0).hourly.0 (leg_at (merged_day I P A) x).block (weight-le I term.Operating valid) (hourly_le I plane.0 valid) in
      omega (arith, le, merged_le x)
  flown_le x Cancelled = omega arith

  operating_le : operating_cost (merged_day I P A) (merged_plan I P A) ≤ 21000 * 10 ^ 27
  unfolding operating_cost
  operating_le =
      let n = legs_of (merged_day I P A) in
      let few : n ≤ 21000 = omega (arith, merged_legs I P A, valid.parts.few.legs, valid.parts.few.planes) in
      let sum : operating_cost (merged_day I P A) (merged_plan I P A) ≤ n * 10 ^ 27 = sum-le (operating (merged_day I P A) (merged_plan I P A)) (10 ^ 27) n (λ x. flown_le x (row_at (merged_plan I P A) x)) in
      omega (arith, sum, mul-le-mul_right (10 ^ 27) few)

  gaps_le : missing_in I (at_hand_with I P A) ≤ 10 ^ 7
  gaps_le =
      let each : All (λ position. position.count - at_hand_with I P A position ≤ 1000) I.parts.positions = λ j d lt. omega (arith, (valid.parts.positions j d lt).count) in
      omega (arith, sum_by-le (λ (position : PositionInfo). position.count - at_hand_with I P A position) 1000 I.parts.positions each, mul-le-mul_right 1000 valid.parts.few.positions)

  missing_le : position_cost (merged_day I P A) (merged_plan I P A) ≤ 10 ^ 32
  missing_le =
      let le : missing_cost I (missing_in I (at_hand_with I P A)) ≤ 60 * 10 ^ 22 * missing_in I (at_hand_with I P A) = by_item-le (weight I term.Position) (position_price (rows_of I)) (missing_in I (at_hand_with I P A)) (weight-le I term.Position valid) (position_price-le (rows_of I) valid.parts.tariff.each) in
      let same = position_is I P A in
      let most : missing_cost I (missing_in I (at_hand_with I P A)) ≤ 10 ^ 32 = omega (arith, le, gaps_le) in
      subst (λ (k : ℕ). k ≤ 10 ^ 32) (sym same) most

  pub added-room : IsPlanFor I P → cost_added I P A < 10 ^ 38
  unfolding cost_added cost
  added-room plan = omega (arith, operating_le, missing_le, cost-room I P valid plan)

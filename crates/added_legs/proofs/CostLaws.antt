-- The cost with added legs is that of the plan, with what they cost to fly and with other ends of aircraft.
use Rattle.std.proofs.Common.{◌≡◌, ℕ, ◌+◌, ◌-◌, ◌*◌, ◌^◌, ◌<◌, ◌≤◌, List, length, get_or, refl, sym, ap, ◌∙◌, arith}
use Rattle.std.specs.Prelude.{Option, Some, None, sum_by}
use Rattle.std.specs.Option.{option_map}
use Rattle.std.proofs.Math.Nat.{mul-le-mul_right}
use Rattle.desk_units.specs.declared.tariff.Term.TheVariants as term
use Rattle.desk_data.specs.declared.info.LegInfo.{LegInfo}
use Rattle.desk_data.specs.declared.row.Row.{Row}
use Rattle.desk_data.specs.declared.row.Row.TheVariants.{Flown, Cancelled}
use Rattle.desk_data.specs.Situation.{Situation, legs_of, planes_of, reservations_of, plane_at}
use Rattle.desk_data.specs.PlanRows.{PlanRows, row_at}
use Rattle.desk_data.specs.Valid.{IsValid, IsPlanFor}
use Rattle.desk_rules.specs.Numbers.{numbers}
use Rattle.desk_rules.specs.Cost.{weight, by_hour, operating_of, operating, operating_cost, delay, delay_cost, cancellation, cancellation_cost, downgrade, downgrade_cost, legal, legal_cost, position_cost, cost}
use Rattle.desk_rules.proofs.CostLaws.{operating_most, item_most, delay_most, downgrade_most, legal_most, operating-sum-le, reservations-le, delay-le, cancellation-le, downgrade-le, legal-le, missing-sum-le}
use Rattle.added_legs.specs.declared.added.Added.{Added}
use Rattle.added_legs.specs.Merged.{added_for, leg_for, row_for, merged_day, merged_plan}
use Rattle.added_legs.specs.Added.{cost_added}
use Rattle.added_legs.proofs.MergedLaws.{old_leg, new_leg, old_row, new_row, merged_legs}
use Rattle.added_legs.specs.declared.flight.Flight.{Flight}
use Rattle.added_legs.specs.Flights.{flight_of, AreFlights}
use Rattle.added_legs.specs.Stands.{flight_cost, flights_cost}
use Rattle.added_legs.proofs.SumLaws.{sum_split, sum_same}

-- ---- operating

module _ (I : Situation) (P : PlanRows) (A : List Added) (all : length P.rows ≡ legs_of I) where
  row_cost : (x : ℕ) (row : Row) → x < legs_of I → operating_of (merged_day I P A) x row ≡ operating_of I x row
  row_cost x (Flown p d) lt = ap (λ (info : LegInfo). by_hour (weight I term.Operating) (plane_at I p.0).hourly.0 info.block) (old_leg I P A x lt)
  row_cost x Cancelled lt = refl

  old_cost : (x : ℕ) → x < legs_of I → operating (merged_day I P A) (merged_plan I P A) x ≡ operating I P x
  old_cost x lt =
      ap (operating_of (merged_day I P A) x) (old_row I P A x (omega (arith, all, lt))) ∙ row_cost x (row_at P x) lt

  new_by : (p : ℕ) (o : Option Added) → p < planes_of I → added_for A p ≡ o → operating (merged_day I P A) (merged_plan I P A) (legs_of I + p) ≡ flight_cost I p (option_map (flight_of I P p) o)
  new_by p None lt is = ap (operating_of (merged_day I P A) (legs_of I + p)) (new_row I P A p all lt ∙ ap (row_for p) is)
  new_by p (Some a) lt is =
      ap (operating_of (merged_day I P A) (legs_of I + p)) (new_row I P A p all lt ∙ ap (row_for p) is)
      ∙ ap (λ (info : LegInfo). by_hour (weight I term.Operating) (plane_at I p).hourly.0 info.block) (new_leg I P A p lt ∙ ap (leg_for I P p) is)

  pub operating_is : (flights : List (Option Flight)) → AreFlights I P A flights → operating_cost (merged_day I P A) (merged_plan I P A) ≡ operating_cost I P + flights_cost I flights (planes_of I)
  unfolding operating_cost
  operating_is flights g =
      let f : ℕ → ℕ = operating (merged_day I P A) (merged_plan I P A) in
      ap (λ (n : ℕ). sum_by f (numbers n)) (merged_legs I P A)
      ∙ sum_split f (legs_of I) (planes_of I)
      ∙ ap (λ (k : ℕ). k + sum_by (λ k. f (legs_of I + k)) (numbers (planes_of I))) (sum_same f (operating I P) (legs_of I) old_cost)
      ∙ ap (λ (k : ℕ). sum_by (operating I P) (numbers (legs_of I)) + k)
      (sum_same (λ k. f (legs_of I + k)) (λ p. flight_cost I p (get_or flights p None)) (planes_of I) (λ p lt.
      new_by p (added_for A p) lt refl ∙ ap (flight_cost I p) (sym (g.each p lt))))

-- ---- the sum

-- there is room for what added legs cost
pub cost-room : (I : Situation) (P : PlanRows) → IsValid I → IsPlanFor I P → cost I P ≤ 9 * 10 ^ 37
unfolding cost operating_cost delay_cost cancellation_cost downgrade_cost legal_cost position_cost
cost-room I P valid plan =
    omega (
      arith,
      operating-sum-le I P (legs_of I) valid,
      mul-le-mul_right operating_most valid.parts.few.legs,
      reservations-le I P (delay I P) delay_most (reservations_of I) valid plan (delay-le I P valid plan),
      mul-le-mul_right (1000 * delay_most) valid.parts.few.res,
      reservations-le I P (cancellation I) item_most (reservations_of I) valid plan (cancellation-le I valid),
      mul-le-mul_right (1000 * item_most) valid.parts.few.res,
      reservations-le I P (downgrade I) downgrade_most (reservations_of I) valid plan (downgrade-le I valid),
      mul-le-mul_right (1000 * downgrade_most) valid.parts.few.res,
      reservations-le I P (legal I P) legal_most (reservations_of I) valid plan (legal-le I P valid),
      mul-le-mul_right (1000 * legal_most) valid.parts.few.res,
      missing-sum-le I P valid,
    )

-- the positions are a part of the cost
pub position-le : (I : Situation) (P : PlanRows) → position_cost I P ≤ cost I P
unfolding cost
position-le I P = omega arith

pub cost_is : (I : Situation) (P : PlanRows) (A : List Added) (old flying new : ℕ) → old ≡ position_cost I P → operating_cost (merged_day I P A) (merged_plan I P A) ≡ operating_cost I P + flying → new ≡ position_cost (merged_day I P A) (merged_plan I P A) → (cost I P - old) + flying + new ≡ cost_added I P A
unfolding cost cost_added
cost_is I P A old flying new is more now = omega (arith, is, more, now)

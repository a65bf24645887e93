-- What a group costs by the end of its path.
use Rattle.std.proofs.Common.{◌≡◌, ℕ, ◌+◌, ◌*◌, ◌<◌, ◌≤◌, inl, inr, true, false, List, refl, sym, ap, ◌∙◌, arith}
use Rattle.std.specs.Prelude.{Option, None, Some}
use Rattle.std.proofs.Math.Nat.{mul-le-mul, mul-le-mul_left}
use Rattle.std.proofs.lemmas.Bool.{cases_Bool}
use Rattle.std.proofs.lemmas.List.Elements.{All-get_or}
use Rattle.desk_units.specs.declared.numbers.Leg.{Leg}
use Rattle.desk_units.specs.declared.numbers.Cabin.{Cabin}
use Rattle.desk_units.specs.declared.numbers.Minute.{Minute}
use Rattle.desk_units.specs.declared.tariff.Term.TheVariants as term
use Rattle.tariff_prices.specs.Prices.{delay_price, cancel_price, care_price, compensation_price, uncarried_care, uncarried_compensation}
use Rattle.tariff_prices.proofs.PriceLaws.{delay_price-le, cancel_price-le, care_price-le, compensation_price-le, uncarried_care-le, uncarried_compensation-le}
use Rattle.desk_data.specs.declared.row.Group.{Group}
use Rattle.desk_data.specs.Booked.{haul_of, reference_of}
use Rattle.desk_data.specs.Situation.{Situation, legs_of, reservations_of, res_at, no_res}
use Rattle.desk_data.specs.PlanRows.{PlanRows}
use Rattle.desk_data.specs.Valid.{IsValid, IsReservation}
use Rattle.desk_rules.specs.Passengers.{all_flown, minutes_late, arrival_of}
use Rattle.desk_data.specs.Paths.{is_carried}
use Rattle.desk_rules.specs.Cost.{rows_of, weight, downgrade, legal_late, legal_uncarried}
use Rattle.desk_rules.proofs.CostLaws.{item_most, delay_most, downgrade_most, weight-le, by_hour-le, by_item-le, downgrade-le}
use Rattle.plan_checks.specs.Counted.{IsGroupOf}
use Rattle.plan_checks.specs.Amounts.{delay_late, arriving, path_cost, group_cost, path_end, cancellation_uncarried}
use Rattle.plan_checks.proofs.GroupLaws.{uncarried_is, stopped_is, arrived_is}

-- a path that arrives, and one that does not
pub end_there : (I : Situation) (P : PlanRows) (path : List (Leg × Cabin)) → is_carried path ≡ true → all_flown P path ≡ true → path_end I P path ≡ Some (record { 0 = arrival_of I P path })
unfolding path_end
end_there I P path carried flown = rw (carried, flown) refl

pub end_nowhere : (I : Situation) (P : PlanRows) (path : List (Leg × Cabin)) → all_flown P path ≡ false → path_end I P path ≡ None
unfolding path_end
end_nowhere I P path stopped = elim (cases_Bool (is_carried path)) [
  | inl carried ↦ rw (carried, stopped) refl
  | inr left ↦ rw left refl
]

carried_cost : (I : Situation) (r : ℕ) (group : Group) (end : Option Minute) → is_carried group.path ≡ true → path_cost I r group end ≡ downgrade I r group + arriving I r group.count end
unfolding path_cost
carried_cost I r group end carried = rw carried refl

-- a group costs what it costs by the end of its path
pub ended_is : (I : Situation) (P : PlanRows) (r : ℕ) (group : Group) → path_cost I r group (path_end I P group.path) ≡ group_cost I P r group
unfolding path_cost minutes_late
ended_is I P r group = elim (cases_Bool (is_carried group.path)) [
  | inr left ↦ rw left (sym (uncarried_is I P r group left))
  | inl carried ↦ elim (cases_Bool (all_flown P group.path)) [
    | inl flown ↦
        ap (path_cost I r group) (end_there I P group.path carried flown)
        ∙ carried_cost I r group (Some (record { 0 = arrival_of I P group.path })) carried
        ∙ omega (arith, arrived_is I P r group carried flown)
    | inr stopped ↦
        ap (path_cost I r group) (end_nowhere I P group.path stopped)
        ∙ carried_cost I r group None carried
        ∙ omega (arith, stopped_is I P r group carried stopped)
  ]
]

-- ---- limits

pub delay_late-le : (I : Situation) (r minutes count : ℕ) → IsValid I → minutes ≤ 52502880 → count ≤ 1000 → delay_late I r minutes count ≤ 1000 * delay_most
delay_late-le I r minutes count valid late few =
    omega (
      arith,
      by_hour-le (weight I term.Delay) (delay_price (rows_of I) (haul_of I r) (reference_of I r)) (count * minutes) (weight-le I term.Delay valid) (delay_price-le (rows_of I) valid.parts.tariff.each (haul_of I r) (reference_of I r)),
      mul-le-mul few late,
    )

pub legal_late-le : (I : Situation) (r minutes count : ℕ) → IsValid I → count ≤ 1000 → legal_late I r minutes count ≤ 2000 * item_most
legal_late-le I r minutes count valid few =
    let of = weight-le I term.Legal valid in
    omega (
      arith,
      by_item-le (weight I term.Legal) (care_price (rows_of I) (haul_of I r) minutes) count of (care_price-le (rows_of I) valid.parts.tariff.each (haul_of I r) minutes),
      by_item-le (weight I term.Legal) (compensation_price (rows_of I) (haul_of I r) minutes) count of (compensation_price-le (rows_of I) valid.parts.tariff.each (haul_of I r) minutes),
    )

pub downgrades-le : (I : Situation) (r : ℕ) (group : Group) → IsValid I → IsGroupOf I group → downgrade I r group ≤ 1000 * downgrade_most
downgrades-le I r group valid fits = omega (arith, downgrade-le I valid r group fits.short, mul-le-mul_left downgrade_most fits.few)

pub uncarried-le : (I : Situation) (r count : ℕ) → IsValid I → r < reservations_of I → count ≤ 1000 → cancellation_uncarried I r count + legal_uncarried I r count ≤ 4000 * item_most
uncarried-le I r count valid lt few =
    let of = weight-le I term.Legal valid in
    omega (
      arith,
      by_item-le (weight I term.Cancellation) (cancel_price (rows_of I) (haul_of I r) (reference_of I r)) count (weight-le I term.Cancellation valid) (cancel_price-le (rows_of I) valid.parts.tariff.each (haul_of I r) (reference_of I r)),
      by_item-le (weight I term.Legal) (res_at I r).price.0 count of (All-get_or (IsReservation (legs_of I)) I.parts.res r no_res lt valid.parts.res).price,
      by_item-le (weight I term.Legal) (uncarried_care (rows_of I) (haul_of I r)) count of (uncarried_care-le (rows_of I) valid.parts.tariff.each (haul_of I r)),
      by_item-le (weight I term.Legal) (uncarried_compensation (rows_of I) (haul_of I r)) count of (uncarried_compensation-le (rows_of I) valid.parts.tariff.each (haul_of I r)),
    )

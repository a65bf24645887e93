-- What a plan costs is bounded, term by term, and so is the whole.
use Rattle.std.proofs.Common.{◌≡◌, ℕ, ◌+◌, ◌-◌, ◌*◌, ◌^◌, ◌<◌, ◌≤◌, inl, inr, Bool, true, false, cond, ltb, List, [], ◌∷◌, length, get_or, subst, add-one, arith}
use Rattle.std.specs.Prelude.{sum_by}
use Rattle.std.specs.List.{AllByRecursion}
use Rattle.std.proofs.Math.Nat.{mul-le-mul, mul-le-mul_left, mul-le-mul_right}
use Rattle.std.proofs.lemmas.Bool.{cases_lt}
use Rattle.std.proofs.lemmas.List.{get_or_past}
use Rattle.std.proofs.lemmas.List.Sums.{sum_by-cons, sum_by_push, sum_by-le, get_or-le-sum_by}
use Rattle.std.proofs.lemmas.List.Elements.{All-get_or, All-from_recursion, recursion_from_All}
use Rattle.desk_units.specs.declared.numbers.Leg.{Leg}
use Rattle.desk_units.specs.declared.numbers.Cabin.{Cabin}
use Rattle.desk_units.specs.declared.tariff.Term.{Term}
use Rattle.desk_units.specs.declared.tariff.Term.TheVariants as term
use Rattle.desk_units.specs.Ranks.{cabin_rank}
use Rattle.tariff_prices.specs.Rows.{IsPrice}
use Rattle.tariff_prices.specs.Prices.{delay_price, cancel_price, downgrade_price, position_price, uncarried_care, uncarried_compensation, care_price, compensation_price}
use Rattle.tariff_prices.proofs.PriceLaws.{weight_of-le, delay_price-le, cancel_price-le, downgrade_price-le, position_price-le, uncarried_care-le, uncarried_compensation-le, care_price-le, compensation_price-le}
use Rattle.desk_data.specs.declared.info.PositionInfo.{PositionInfo}
use Rattle.desk_data.specs.declared.row.Row.{Row}
use Rattle.desk_data.specs.declared.row.Row.TheVariants.{Flown, Cancelled}
use Rattle.desk_data.specs.declared.row.Group.{Group}
use Rattle.desk_data.specs.Situation.{Situation, legs_of, planes_of, airports_of, reservations_of, leg_at, plane_at, res_at, no_plane, no_res}
use Rattle.desk_data.specs.PlanRows.{PlanRows, IsGroup, AreGroups, row_at, groups_at}
use Rattle.desk_data.specs.Valid.{IsValid, IsPlane, IsReservation, IsPosition, IsPlanFor}
use Rattle.desk_rules.specs.Numbers.{numbers}
use Rattle.desk_data.specs.Paths.{last_leg, is_carried}
use Rattle.desk_data.specs.Booked.{haul_of, reference_of}
use Rattle.desk_rules.specs.Passengers.{minutes_late}
use Rattle.desk_rules.specs.Cost.{rows_of, weight, by_hour, by_item, operating_of, operating, operating_cost, over_groups, arrives, delay, delay_cost, cancellation, cancellation_cost, downgrade_on, downgrade, downgrade_cost, legal_uncarried, legal_late, legal, legal_cost, at_hand, missing_aircraft, position_cost, cost}
use Rattle.desk_rules.proofs.HourLaws.{length-numbers, arr-lt, block_le}

-- ---- the numbers of the tariff are in their ranges

pub weight-le : (I : Situation) (of : Term) → IsValid I → weight I of ≤ 999999999
weight-le I of valid = weight_of-le (rows_of I) valid.parts.tariff.each of

-- ---- the numbers of a day are in their ranges

hourly_le : (I : Situation) (p : ℕ) → IsValid I → IsPrice (plane_at I p).hourly.0
unfolding no_plane
hourly_le I p valid =
    elim (cases_lt p (planes_of I)) [
      | inl within ↦ (All-get_or (IsPlane (airports_of I)) I.parts.planes p no_plane within valid.parts.planes).hourly
      | inr past ↦ rw (get_or_past I.parts.planes p no_plane past) (omega arith)
    ]

paid_le : (I : Situation) (r : ℕ) → IsValid I → IsPrice (res_at I r).price.0
unfolding no_res
paid_le I r valid =
    elim (cases_lt r (reservations_of I)) [
      | inl within ↦ (All-get_or (IsReservation (legs_of I)) I.parts.res r no_res within valid.parts.res).price
      | inr past ↦ rw (get_or_past I.parts.res r no_res past) (omega arith)
    ]

count_le : (I : Situation) (r : ℕ) → IsValid I → (res_at I r).count ≤ 1000
unfolding no_res
count_le I r valid =
    elim (cases_lt r (reservations_of I)) [
      | inl within ↦ (All-get_or (IsReservation (legs_of I)) I.parts.res r no_res within valid.parts.res).count
      | inr past ↦ rw (get_or_past I.parts.res r no_res past) (omega arith)
    ]

-- no path is as much as the hundred years late
pub minutes_late-lt : (I : Situation) (P : PlanRows) (r : ℕ) (path : List (Leg × Cabin)) → IsValid I → IsPlanFor I P → minutes_late I P r path < 52502880
unfolding minutes_late
minutes_late-lt I P r path valid plan = omega (arith, arr-lt I P (last_leg path) valid plan)

-- ---- amounts

-- the most grains of a minute, of an item, of a leg, of a passenger for each term, and of a position
abbrev pub minute_most : ℕ
minute_most = 10 ^ 22

abbrev pub item_most : ℕ
item_most = 60 * 10 ^ 22

abbrev pub operating_most : ℕ
operating_most = 2880 * 10 ^ 22

abbrev pub delay_most : ℕ
delay_most = 52502880 * 10 ^ 22

abbrev pub downgrade_most : ℕ
downgrade_most = 8 * 60 * 10 ^ 22

abbrev pub legal_most : ℕ
legal_most = 3 * 60 * 10 ^ 22

abbrev pub missing_most : ℕ
missing_most = 1000 * 60 * 10 ^ 22

rate_le : (weight price : ℕ) → weight ≤ 999999999 → IsPrice price → weight * price ≤ minute_most
rate_le weight price h k = omega (arith, mul-le-mul h k)

pub by_hour-le : (weight price minutes : ℕ) → weight ≤ 999999999 → IsPrice price → by_hour weight price minutes ≤ minute_most * minutes
by_hour-le weight price minutes h k = omega (arith, mul-le-mul_right minutes (rate_le weight price h k))

pub by_item-le : (weight price items : ℕ) → weight ≤ 999999999 → IsPrice price → by_item weight price items ≤ item_most * items
by_item-le weight price items h k = omega (arith, mul-le-mul_right items (rate_le weight price h k))

-- ---- sums over numbers

-- the sum over one more number
pub sum-more : (f : ℕ → ℕ) (n : ℕ) → sum_by f (numbers (n + 1)) ≡ sum_by f (numbers n) + f n
sum-more f n = rw (add-one n) (sum_by_push f (numbers n) n)

each_le : (f : ℕ → ℕ) (most : ℕ) → ((k : ℕ) → f k ≤ most) → (xs : List ℕ) → AllByRecursion (λ k. f k ≤ most) xs
each_le f most h [] = tt
each_le f most h (x ∷ xs) = (h x, each_le f most h xs)

-- a sum of n numbers is at most n times the most of them
pub sum-le : (f : ℕ → ℕ) (most n : ℕ) → ((k : ℕ) → f k ≤ most) → sum_by f (numbers n) ≤ n * most
sum-le f most n h =
    subst (λ (k : ℕ). sum_by f (numbers n) ≤ k * most) (length-numbers n)
    (sum_by-le f most (numbers n) (All-from_recursion (λ k. f k ≤ most) (numbers n) (each_le f most h (numbers n))))

-- ---- operating

operating_of-le : (I : Situation) (x : ℕ) (row : Row) → IsValid I → operating_of I x row ≤ operating_most
operating_of-le I x (Flown plane dep) valid =
    omega (arith, by_hour-le (weight I term.Operating) (plane_at I plane.0).hourly.0 (leg_at I x).block (weight-le I term.Operating valid) (hourly_le I plane.0 valid), block_le I x valid)
operating_of-le I x Cancelled valid = omega arith

-- what the first n legs cost
pub operating-sum-le : (I : Situation) (P : PlanRows) (n : ℕ) → IsValid I → sum_by (operating I P) (numbers n) ≤ n * operating_most
operating-sum-le I P n valid = sum-le (operating I P) operating_most n (λ x. operating_of-le I x (row_at P x) valid)

-- ---- groups

-- an amount for a group is at most so much for each of its passengers
abbrev pub IsAtMost : (ℕ → Group → ℕ) → ℕ → Type 0
IsAtMost amount most = (r : ℕ) (group : Group) → length group.path ≤ 8 → amount r group ≤ most * group.count

list_le : (amount : Group → ℕ) (most : ℕ) → ((group : Group) → length group.path ≤ 8 → amount group ≤ most * group.count) → (groups : List Group) → AllByRecursion IsGroup groups → sum_by amount groups ≤ most * sum_by (λ group. group.count) groups
list_le amount most h [] all = omega arith
list_le amount most h (group ∷ groups) all =
    rw (sum_by-cons amount group groups, sum_by-cons (λ (group : Group). group.count) group groups)
    (omega (arith, h group all.0.short, list_le amount most h groups all.1))

-- the groups of a reservation have at most 1,000 passengers, and so has each of them
passengers_le : (I : Situation) (P : PlanRows) (r : ℕ) → IsValid I → IsPlanFor I P → sum_by (λ group. group.count) (groups_at P r) ≤ 1000
passengers_le I P r valid plan =
    elim (cases_lt r (reservations_of I)) [
      | inl within ↦ omega (arith, (plan.groups r within).all, count_le I r valid)
      | inr past ↦ let far : length P.groups ≤ r = omega (arith, plan.res) in rw (get_or_past P.groups r [] far) (omega arith)
    ]

pub count-le : (I : Situation) (P : PlanRows) (r k : ℕ) (other : Group) → IsValid I → IsPlanFor I P → k < length (groups_at P r) → (get_or (groups_at P r) k other).count ≤ 1000
count-le I P r k other valid plan within =
    omega (arith, get_or-le-sum_by (λ (group : Group). group.count) (groups_at P r) k other within, passengers_le I P r valid plan)

groups_are : (P : PlanRows) (r : ℕ) (I : Situation) → IsPlanFor I P → AllByRecursion IsGroup (groups_at P r)
groups_are P r I plan =
    elim (cases_lt r (length P.groups)) [
      | inl within ↦ recursion_from_All IsGroup (groups_at P r) (All-get_or AreGroups P.groups r [] within plan.sound.groups).each
      | inr past ↦ rw (get_or_past P.groups r [] past) tt
    ]

-- an amount for the groups of a reservation, and for those of the first n reservations
pub reservation-le : (I : Situation) (P : PlanRows) (amount : ℕ → Group → ℕ) (most r : ℕ) → IsValid I → IsPlanFor I P → IsAtMost amount most → sum_by (amount r) (groups_at P r) ≤ 1000 * most
reservation-le I P amount most r valid plan h =
    omega (arith, list_le (amount r) most (h r) (groups_at P r) (groups_are P r I plan), mul-le-mul_left most (passengers_le I P r valid plan))

pub reservations-le : (I : Situation) (P : PlanRows) (amount : ℕ → Group → ℕ) (most n : ℕ) → IsValid I → IsPlanFor I P → IsAtMost amount most → sum_by (λ r. sum_by (amount r) (groups_at P r)) (numbers n) ≤ n * (1000 * most)
reservations-le I P amount most n valid plan h =
    sum-le (λ r. sum_by (amount r) (groups_at P r)) (1000 * most) n (λ r. reservation-le I P amount most r valid plan h)

over_le : (I : Situation) (P : PlanRows) (amount : ℕ → Group → ℕ) (most : ℕ) → IsValid I → IsPlanFor I P → IsAtMost amount most → over_groups I P amount ≤ 100000 * (1000 * most)
over_le I P amount most valid plan h =
    omega (arith, reservations-le I P amount most (reservations_of I) valid plan h, mul-le-mul_right (1000 * most) valid.parts.few.res)

-- ---- the terms that passengers cost

-- an amount or nothing
amount_or_none : (test : Bool) (amount most : ℕ) → amount ≤ most → cond test amount 0 ≤ most
amount_or_none true amount most h = h
amount_or_none false amount most h = omega arith

none_or_amount : (test : Bool) (amount most : ℕ) → amount ≤ most → cond test 0 amount ≤ most
none_or_amount true amount most h = omega arith
none_or_amount false amount most h = h

pub delay-le : (I : Situation) (P : PlanRows) → IsValid I → IsPlanFor I P → IsAtMost (delay I P) delay_most
unfolding delay
delay-le I P valid plan r group short =
    let minutes = minutes_late I P r group.path in
    let late : minutes ≤ 52502880 = omega (arith, minutes_late-lt I P r group.path valid plan) in
    amount_or_none (arrives P group.path) _ (delay_most * group.count)
    (omega (
      arith,
      by_hour-le (weight I term.Delay) (delay_price (rows_of I) (haul_of I r) (reference_of I r)) (group.count * minutes) (weight-le I term.Delay valid) (delay_price-le (rows_of I) valid.parts.tariff.each (haul_of I r) (reference_of I r)),
      mul-le-mul_left group.count late,
    ))

pub cancellation-le : (I : Situation) → IsValid I → IsAtMost (cancellation I) item_most
unfolding cancellation
cancellation-le I valid r group short =
    none_or_amount (is_carried group.path) _ (item_most * group.count)
    (by_item-le (weight I term.Cancellation) (cancel_price (rows_of I) (haul_of I r) (reference_of I r)) group.count (weight-le I term.Cancellation valid) (cancel_price-le (rows_of I) valid.parts.tariff.each (haul_of I r) (reference_of I r)))

pub downgrade_on-le : (I : Situation) (r count : ℕ) (pair : Leg × Cabin) → IsValid I → downgrade_on I r count pair ≤ item_most * count
unfolding downgrade_on
downgrade_on-le I r count pair valid =
    amount_or_none (ltb (cabin_rank (reference_of I r)) (cabin_rank pair.1)) _ (item_most * count)
    (by_item-le (weight I term.Downgrade) (downgrade_price (rows_of I) (leg_at I pair.0.0).haul (reference_of I r) pair.1) count (weight-le I term.Downgrade valid) (downgrade_price-le (rows_of I) valid.parts.tariff.each (leg_at I pair.0.0).haul (reference_of I r) pair.1))

downgrades_are : (I : Situation) (r count : ℕ) → IsValid I → (path : List (Leg × Cabin)) → AllByRecursion (λ pair. downgrade_on I r count pair ≤ item_most * count) path
downgrades_are I r count valid [] = tt
downgrades_are I r count valid (pair ∷ path) = (downgrade_on-le I r count pair valid, downgrades_are I r count valid path)

pub downgrade-le : (I : Situation) → IsValid I → IsAtMost (downgrade I) downgrade_most
downgrade-le I valid r group short =
    omega (
      arith,
      sum_by-le (downgrade_on I r group.count) (item_most * group.count) group.path (All-from_recursion (λ pair. downgrade_on I r group.count pair ≤ item_most * group.count) group.path (downgrades_are I r group.count valid group.path)),
      mul-le-mul_right (item_most * group.count) short,
    )

owed_late_le : (I : Situation) (r minutes count : ℕ) → IsValid I → legal_late I r minutes count ≤ legal_most * count
owed_late_le I r minutes count valid =
    let of = weight-le I term.Legal valid in
    omega (
      arith,
      by_item-le (weight I term.Legal) (care_price (rows_of I) (haul_of I r) minutes) count of (care_price-le (rows_of I) valid.parts.tariff.each (haul_of I r) minutes),
      by_item-le (weight I term.Legal) (compensation_price (rows_of I) (haul_of I r) minutes) count of (compensation_price-le (rows_of I) valid.parts.tariff.each (haul_of I r) minutes),
    )

owed_uncarried_le : (I : Situation) (r count : ℕ) → IsValid I → legal_uncarried I r count ≤ legal_most * count
owed_uncarried_le I r count valid =
    let of = weight-le I term.Legal valid in
    omega (
      arith,
      by_item-le (weight I term.Legal) (res_at I r).price.0 count of (paid_le I r valid),
      by_item-le (weight I term.Legal) (uncarried_care (rows_of I) (haul_of I r)) count of (uncarried_care-le (rows_of I) valid.parts.tariff.each (haul_of I r)),
      by_item-le (weight I term.Legal) (uncarried_compensation (rows_of I) (haul_of I r)) count of (uncarried_compensation-le (rows_of I) valid.parts.tariff.each (haul_of I r)),
    )

either_le : (test : Bool) (a b most : ℕ) → a ≤ most → b ≤ most → cond test a b ≤ most
either_le true a b most h k = h
either_le false a b most h k = k

pub legal-le : (I : Situation) (P : PlanRows) → IsValid I → IsAtMost (legal I P) legal_most
unfolding legal
legal-le I P valid r group short =
    either_le (arrives P group.path) _ _ (legal_most * group.count)
    (owed_late_le I r (minutes_late I P r group.path) group.count valid)
    (none_or_amount (is_carried group.path) _ (legal_most * group.count) (owed_uncarried_le I r group.count valid))

-- ---- position

missing_le : (I : Situation) (P : PlanRows) (position : PositionInfo) → position.count ≤ 1000 → IsValid I → missing_aircraft I P position ≤ missing_most
unfolding missing_aircraft
missing_le I P position few valid =
    omega (arith, by_item-le (weight I term.Position) (position_price (rows_of I)) (position.count - at_hand I P position) (weight-le I term.Position valid) (position_price-le (rows_of I) valid.parts.tariff.each))

missing_are : (I : Situation) (P : PlanRows) → IsValid I → (positions : List PositionInfo) → AllByRecursion (IsPosition (airports_of I)) positions → AllByRecursion (λ position. missing_aircraft I P position ≤ missing_most) positions
missing_are I P valid [] all = tt
missing_are I P valid (position ∷ positions) all = (missing_le I P position all.0.count valid, missing_are I P valid positions all.1)

pub missing-sum-le : (I : Situation) (P : PlanRows) → IsValid I → sum_by (missing_aircraft I P) I.parts.positions ≤ 10000 * missing_most
missing-sum-le I P valid =
    let all = missing_are I P valid I.parts.positions (recursion_from_All (IsPosition (airports_of I)) I.parts.positions valid.parts.positions) in
    omega (
      arith,
      sum_by-le (missing_aircraft I P) missing_most I.parts.positions (All-from_recursion (λ position. missing_aircraft I P position ≤ missing_most) I.parts.positions all),
      mul-le-mul_right missing_most valid.parts.few.positions,
    )

-- ---- all six

pub cost-lt : (I : Situation) (P : PlanRows) → IsValid I → IsPlanFor I P → cost I P < 10 ^ 38
unfolding cost operating_cost delay_cost cancellation_cost downgrade_cost legal_cost position_cost
cost-lt I P valid plan =
    omega (
      arith,
      operating-sum-le I P (legs_of I) valid,
      mul-le-mul_right operating_most valid.parts.few.legs,
      over_le I P (delay I P) delay_most valid plan (delay-le I P valid plan),
      over_le I P (cancellation I) item_most valid plan (cancellation-le I valid),
      over_le I P (downgrade I) downgrade_most valid plan (downgrade-le I valid),
      over_le I P (legal I P) legal_most valid plan (legal-le I P valid),
      missing-sum-le I P valid,
    )

-- What a group costs in each case, and sums of the four terms.
use Rattle.std.proofs.Common.{◌≡◌, ℕ, zero, suc, ◌+◌, ◌*◌, ◌^◌, ◌<◌, ◌≤◌, true, false, List, [], ◌∷◌, length, take, get_or, refl, sym, ap, subst, arith}
use Rattle.std.specs.Prelude.{sum_by}
use Rattle.std.proofs.Math.Nat.{mul-le-mul_left}
use Rattle.std.proofs.lemmas.List.{take_all}
use Rattle.std.proofs.lemmas.List.Elements.{All-get_or}
use Rattle.std.proofs.lemmas.List.Sums.{sum_by-cons, sum_by_push, sum_by_more_le}
use Rattle.desk_units.specs.declared.numbers.Leg.{Leg}
use Rattle.desk_units.specs.declared.numbers.Cabin.{Cabin}
use Rattle.desk_data.specs.declared.row.Group.{Group}
use Rattle.desk_data.specs.Situation.{Situation, legs_of, reservations_of}
use Rattle.desk_data.specs.PlanRows.{PlanRows, IsGroup, AreGroups, groups_at}
use Rattle.desk_data.specs.Valid.{IsValid, IsPathOf, IsPlanFor}
use Rattle.desk_rules.specs.Numbers.{numbers}
use Rattle.desk_rules.specs.Passengers.{all_flown, minutes_late}
use Rattle.desk_data.specs.Paths.{is_carried}
use Rattle.desk_rules.specs.Cost.{delay, cancellation, downgrade, legal, legal_late, legal_uncarried}
use Rattle.desk_rules.proofs.CostLaws.{delay_most, item_most, downgrade_most, legal_most, IsAtMost, count-le, delay-le, cancellation-le, downgrade-le, legal-le, reservation-le, reservations-le as all-le}
use Rattle.plan_checks.specs.Counted.{IsGroupOf}
use Rattle.plan_checks.specs.Amounts.{delay_late, cancellation_uncarried, group_cost, reservation_cost}

-- ---- the cases

-- the empty path is the one on which nobody is carried
uncarried : (path : List (Leg × Cabin)) → is_carried path ≡ false → path ≡ []
uncarried [] h = refl
uncarried (pair ∷ path) h = absurd cc

pub uncarried_is : (I : Situation) (P : PlanRows) (r : ℕ) (group : Group) → is_carried group.path ≡ false → group_cost I P r group ≡ cancellation_uncarried I r group.count + legal_uncarried I r group.count
unfolding group_cost delay cancellation legal
uncarried_is I P r group left = rw (uncarried group.path left) (omega arith)

pub stopped_is : (I : Situation) (P : PlanRows) (r : ℕ) (group : Group) → is_carried group.path ≡ true → all_flown P group.path ≡ false → group_cost I P r group ≡ downgrade I r group
unfolding group_cost delay cancellation legal
stopped_is I P r group carried stopped = rw (carried, stopped) (omega arith)

pub arrived_is : (I : Situation) (P : PlanRows) (r : ℕ) (group : Group) → is_carried group.path ≡ true → all_flown P group.path ≡ true → group_cost I P r group ≡ downgrade I r group + delay_late I r (minutes_late I P r group.path) group.count + legal_late I r (minutes_late I P r group.path) group.count
unfolding group_cost delay cancellation legal
arrived_is I P r group carried flown = rw (carried, flown) (omega arith)

-- ---- sums

-- the most that a passenger costs
abbrev pub passenger_most : ℕ
passenger_most = delay_most + item_most + downgrade_most + legal_most

pub group-le : (I : Situation) (P : PlanRows) → IsValid I → IsPlanFor I P → IsAtMost (group_cost I P) passenger_most
unfolding group_cost
group-le I P valid plan r group short =
    omega (arith, delay-le I P valid plan r group short, cancellation-le I valid r group short, downgrade-le I valid r group short, legal-le I P valid r group short)

-- so each sum on the way is below 10^38
pub group-lt : (I : Situation) (P : PlanRows) (r : ℕ) (group : Group) → IsValid I → IsPlanFor I P → IsGroupOf I group → group_cost I P r group < 10 ^ 33
group-lt I P r group valid plan fits = omega (arith, group-le I P valid plan r group fits.short, mul-le-mul_left passenger_most fits.few)

sum-four : {X : Type 0} (f g h k : X → ℕ) (xs : List X) → sum_by (λ x. f x + g x + h x + k x) xs ≡ sum_by f xs + sum_by g xs + sum_by h xs + sum_by k xs
sum-four f g h k [] = refl
sum-four f g h k (x ∷ xs) =
    rw (sum_by-cons (λ x. f x + g x + h x + k x) x xs, sum_by-cons f x xs, sum_by-cons g x xs, sum_by-cons h x xs, sum_by-cons k x xs)
    (omega (arith, sum-four f g h k xs))

-- an amount for each group, over the groups of the first n reservations
abbrev pub over : PlanRows → ℕ → (ℕ → Group → ℕ) → ℕ
over P n amount = sum_by (λ r. sum_by (amount r) (groups_at P r)) (numbers n)

reservation_is : (I : Situation) (P : PlanRows) (r : ℕ) → reservation_cost I P r ≡ sum_by (delay I P r) (groups_at P r) + sum_by (cancellation I r) (groups_at P r) + sum_by (downgrade I r) (groups_at P r) + sum_by (legal I P r) (groups_at P r)
unfolding reservation_cost group_cost
reservation_is I P r = sum-four (delay I P r) (cancellation I r) (downgrade I r) (legal I P r) (groups_at P r)

pub reservations_are : (I : Situation) (P : PlanRows) (n : ℕ) → sum_by (reservation_cost I P) (numbers n) ≡ over P n (delay I P) + over P n (cancellation I) + over P n (downgrade I) + over P n (legal I P)
reservations_are I P zero = refl
reservations_are I P (suc n) =
    let of : (ℕ → Group → ℕ) → ℕ → ℕ = λ amount r. sum_by (amount r) (groups_at P r) in
    rw (sum_by_push (reservation_cost I P) (numbers n) n, sum_by_push (of (delay I P)) (numbers n) n, sum_by_push (of (cancellation I)) (numbers n) n, sum_by_push (of (downgrade I)) (numbers n) n, sum_by_push (of (legal I P)) (numbers n) n)
    (omega (arith, reservations_are I P n, reservation_is I P n))

pub reservation-lt : (I : Situation) (P : PlanRows) (r : ℕ) → IsValid I → IsPlanFor I P → reservation_cost I P r < 10 ^ 33
unfolding reservation_cost
reservation-lt I P r valid plan = omega (arith, reservation-le I P (group_cost I P) passenger_most r valid plan (group-le I P valid plan))

-- what the first n reservations cost
pub reservations-le : (I : Situation) (P : PlanRows) (n : ℕ) → IsValid I → IsPlanFor I P → sum_by (reservation_cost I P) (numbers n) ≤ n * (1000 * passenger_most)
unfolding reservation_cost
reservations-le I P n valid plan = all-le I P (group_cost I P) passenger_most n valid plan (group-le I P valid plan)

-- ---- the groups of a plan

pub group-fits : (I : Situation) (P : PlanRows) (r k : ℕ) (group : Group) → IsValid I → IsPlanFor I P → r < reservations_of I → k < length (groups_at P r) → group ≡ get_or (groups_at P r) k group → IsGroupOf I group
group-fits I P r k group valid plan lt within is =
    let there : r < length P.groups = omega (arith, plan.res) in
    let sound = All-get_or AreGroups P.groups r [] there plan.sound.groups in
    let made : IsGroupOf I (get_or (groups_at P r) k group) = record {
      few = count-le I P r k group valid plan within;
      short = (All-get_or IsGroup (groups_at P r) k group within sound.each).short;
      path_of = All-get_or (λ (one : Group). IsPathOf (legs_of I) one.path) (groups_at P r) k group within (plan.groups r lt).paths;
    } in
    subst (IsGroupOf I) (sym is) made

-- the groups before number k, and group number k
pub some-groups-lt : (I : Situation) (P : PlanRows) (r k : ℕ) (group : Group) → IsValid I → IsPlanFor I P → k < length (groups_at P r) → sum_by (group_cost I P r) (take k (groups_at P r)) + group_cost I P r (get_or (groups_at P r) k group) < 10 ^ 33
unfolding reservation_cost
some-groups-lt I P r k group valid plan within =
    omega (arith, sum_by_more_le (group_cost I P r) (groups_at P r) k group within, reservation-lt I P r valid plan)

pub all-groups : (I : Situation) (P : PlanRows) (r k : ℕ) → length (groups_at P r) ≤ k → sum_by (group_cost I P r) (take k (groups_at P r)) ≡ reservation_cost I P r
unfolding reservation_cost
all-groups I P r k all = ap (sum_by (group_cost I P r)) (take_all k (groups_at P r) all)

-- What a batch makes of a day: time goes on to the batch's moment, rows that left before it are frozen, passengers who left with them are
-- tallied, and then the batch's orders are taken.
use Rattle.std.specs.Prelude.{ℕ, ◌+◌, ◌-◌, max, nat_lt, ◌==◌, ◌&&◌, if◌then◌else◌, List, [], ◌∷◌, ◌++◌, map, filter, fold, Option, Some, None}
use Rattle.std.specs.List.{filter_map, range_with_len}
use Rattle.std.specs.Option.{option_or}
use Rattle.std.specs.Ordering.{is_lt, is_gt}
use Rattle.desk_units.specs.declared.numbers.Leg.{Leg}
use Rattle.desk_units.specs.declared.numbers.Cabin.{Cabin}
use Rattle.desk_units.specs.declared.numbers.Minute.{Minute}
use Rattle.day_orders.specs.declared.orders.Batch.{Batch}
use Rattle.desk_data.specs.declared.row.Row.{Row}
use Rattle.desk_data.specs.declared.row.Row.TheVariants.{Flown, Cancelled}
use Rattle.desk_data.specs.Paths.{is_carried}
use Rattle.desk_data.specs.PlanRows.{PlanRows, row_at, groups_at, path_cmp}
use Rattle.desk_data.specs.Situation.{PassengersGone, Progress, Situation, legs_of, reservations_of, now_of, frozen_at, fixed, earliest, gone_in, carried_gone, tally_at, tallied}

-- ---- what is frozen

-- the row with which leg x leaves before a moment: a flown row that departs before it; and of a leg that is fixed and cancelled the cancelled row, where its earliest departure is before it
abbrev pub leaving : Situation → ℕ → ℕ → Row → Option Row
leaving I at x (Flown plane dep) = if nat_lt dep.0 at then Some (Flown plane dep) else None
leaving I at x Cancelled = if fixed I x && nat_lt (earliest I x) at then Some Cancelled else None

-- what was frozen stays so, and each other leg is frozen with its row in the plan where it leaves before the moment
unfoldable pub frozen_by : Situation → PlanRows → ℕ → List (Option Row)
frozen_by I P at = map (λ x. option_or (frozen_at I x) (leaving I at x (row_at P x))) (range_with_len 0 (legs_of I))

-- ---- the tally

-- some lists of pairs in the order of paths, with one among them
abbrev pub with_list : List (List (Leg × Cabin)) → List (Leg × Cabin) → List (List (Leg × Cabin))
with_list lists one = filter (λ other. is_lt (path_cmp other one)) lists ++ (one ∷ filter (λ other. is_gt (path_cmp other one)) lists)

-- the lists of legs that passengers may have flown: those that some had, and those that have left of the paths on which the plan carries some; in the order of paths, each once
abbrev pub lists_gone : Situation → PlanRows → List (Option Row) → ℕ → List (List (Leg × Cabin))
lists_gone I P frozen r =
    fold with_list [] (map (λ entry. entry.0) (tally_at I r) ++ map (λ group. gone_in frozen group.path) (filter (λ group. is_carried group.path) (groups_at P r)))

-- how many passengers of reservation r have then flown just these legs: those whom the plan carries so, and of those who had flown them before the ones that the plan did not carry so
abbrev pub count_then : Situation → PlanRows → List (Option Row) → ℕ → List (Leg × Cabin) → ℕ
count_then I P frozen r legs =
    carried_gone frozen (groups_at P r) legs + (tallied I r legs - carried_gone I.progress.frozen (groups_at P r) legs)

-- a list with its count, where that is at least 1
abbrev pub entry_of : ℕ → List (Leg × Cabin) → Option PassengersGone
entry_of count legs = if count == 0 then None else Some (legs, count)

abbrev pub tally_then : Situation → PlanRows → List (Option Row) → ℕ → List PassengersGone
tally_then I P frozen r = filter_map (λ legs. entry_of (count_then I P frozen r legs) legs) (lists_gone I P frozen r)

unfoldable pub tally_by : Situation → PlanRows → List (Option Row) → List (List PassengersGone)
tally_by I P frozen = map (tally_then I P frozen) (range_with_len 0 (reservations_of I))

-- ---- a batch

-- the moment of a batch, or none where it tells none: then, and where it tells an earlier one, no time passes
abbrev pub moment_or_now : ℕ → Option Minute → ℕ
moment_or_now now None = now
moment_or_now now (Some at) = max now at.0

-- how far the day has gone on at a moment: where time passes, legs are frozen and then passengers are tallied, by the plan as it stands
abbrev pub progress_at : Situation → PlanRows → ℕ → Progress
progress_at I P at =
    if nat_lt (now_of I) at
    then record { now = record { 0 = at }; frozen = frozen_by I P at; tally = tally_by I P (frozen_by I P at) }
    else I.progress

-- the day with a batch, by the plan as it stands: time goes on to the batch's moment, and its orders come after those taken before
abbrev pub with_batch : Situation → PlanRows → Batch → Situation
with_batch I P B = record I { orders = I.orders ++ B.orders; progress = progress_at I P (moment_or_now (now_of I) B.at) }

-- What a batch freezes, and whom it tallies.
use Rattle.std.specs.Prelude.{◌≡◌, ℕ, ◌+◌, ◌-◌, ◌<◌, nat_lt, ◌&&◌, if◌then◌else◌, List, Some, None}
use Rattle.desk_units.specs.declared.numbers.Cabin.{Cabin}
use Rattle.desk_units.specs.declared.numbers.Leg.{Leg}
use Rattle.desk_units.specs.declared.numbers.Minute.{Minute}
use Rattle.desk_units.specs.declared.numbers.Plane.{Plane}
use Rattle.day_orders.specs.declared.orders.Batch.{Batch}
use Rattle.desk_data.specs.declared.row.Row.{Row}
use Rattle.desk_data.specs.declared.row.Row.TheVariants.{Flown, Cancelled}
use Rattle.desk_data.specs.PlanRows.{PlanRows, row_at, groups_at}
use Rattle.desk_data.specs.Progress.{with_batch, moment_or_now}
use Rattle.desk_data.specs.Situation.{Situation, legs_of, reservations_of, now_of, frozen_at, fixed, earliest, carried_gone, tallied}

-- what a batch freezes: what was frozen stays so. Where it tells a later moment than the present one, any other leg is frozen just where its row departs before that, or it is fixed and cancelled and its earliest departure is before that. Else none is
pub record FreezesRows (I : Situation) (P : PlanRows) (B : Batch) : Type 0 where
  pub stays : (x : ℕ) (row : Row) → x < legs_of I → frozen_at I x ≡ Some row → frozen_at (with_batch I P B) x ≡ Some row
  pub flown : (x : ℕ) (plane : Plane) (dep : Minute) → x < legs_of I → frozen_at I x ≡ None → row_at P x ≡ Flown plane dep → frozen_at (with_batch I P B) x ≡ (if nat_lt (now_of I) (moment_or_now (now_of I) B.at) && nat_lt dep.0 (moment_or_now (now_of I) B.at) then Some (Flown plane dep) else None)
  pub cancelled : (x : ℕ) → x < legs_of I → frozen_at I x ≡ None → row_at P x ≡ Cancelled → frozen_at (with_batch I P B) x ≡ (if nat_lt (now_of I) (moment_or_now (now_of I) B.at) && (fixed I x && nat_lt (earliest I x) (moment_or_now (now_of I) B.at)) then Some Cancelled else None)
  pub goes_on : now_of (with_batch I P B) ≡ moment_or_now (now_of I) B.at
  pub waits : moment_or_now (now_of I) B.at ≡ now_of I → (with_batch I P B).progress ≡ I.progress

-- how many passengers of reservation r have flown just these legs once time has passed: those whom the plan carries so, and of those who had flown them before the ones that the plan did not carry so
pub record TalliesPassengers (I : Situation) (P : PlanRows) (B : Batch) (r : ℕ) : Type 0 where
  pub count : (legs : List (Leg × Cabin)) → now_of I < now_of (with_batch I P B) → r < reservations_of I → tallied (with_batch I P B) r legs ≡ carried_gone (with_batch I P B).progress.frozen (groups_at P r) legs + (tallied I r legs - carried_gone I.progress.frozen (groups_at P r) legs)

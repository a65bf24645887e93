-- How many other legs depart from an airport in an hour, or arrive there.
use Rattle.std.specs.Prelude.{ℕ, Bool}
use Rattle.desk_data.specs.declared.row.Row.{Row}
use Rattle.desk_data.specs.Situation.{Situation}
use Rattle.desk_data.specs.PlanRows.{PlanRows}
use Rattle.desk_model.specs.Push.{departures_beside, arrivals_beside}
use Rattle.hour_counts.specs.Counts.{departs_at, arrives_at}
use Rattle.hour_counts.specs.declared.slot.Movement.{Movement}
use Rattle.hour_counts.specs.declared.slot.Movement.TheVariants.{Departure, Arrival}

-- how many other legs than leg x do
abbrev pub beside : Movement → Situation → PlanRows → ℕ → ℕ → ℕ → ℕ
beside Departure I Q x a h = departures_beside I Q x a h
beside Arrival I Q x a h = arrivals_beside I Q x a h

-- whether leg y does by its row
abbrev pub is_counted_at : Movement → Situation → ℕ → ℕ → ℕ → Row → Bool
is_counted_at Departure I a h y row = departs_at I a h y row
is_counted_at Arrival I a h y row = arrives_at I a h y row

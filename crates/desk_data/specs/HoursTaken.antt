-- The hours of airports that rows take, one at a time, and when they land an aircraft.
use Rattle.std.specs.Prelude.{ℕ, ◌+◌, ◌/◌, max, if◌then◌else◌, List, Option, None, Some, fold, slice_index_or}
use Rattle.desk_units.specs.declared.numbers.Airport.{Airport}
use Rattle.day_orders.specs.declared.slots.AirportHour.{AirportHour}
use Rattle.desk_data.specs.declared.info.LegInfo.{LegInfo}
use Rattle.desk_data.specs.declared.parts.Parts.{Parts}
use Rattle.desk_data.specs.declared.row.Row.{Row}
use Rattle.desk_data.specs.declared.row.Row.TheVariants.{Flown, Cancelled}
use Rattle.desk_data.specs.Situation.{no_plane, lands_frozen}

-- the hour of an airport that a row takes, so many minutes after it departs: none where no row is, where it is cancelled, and where surface transport goes
abbrev pub hour_taken : Parts → Airport → ℕ → Option Row → Option AirportHour
hour_taken parts airport after None = None
hour_taken parts airport after (Some Cancelled) = None
hour_taken parts airport after (Some (Flown plane dep)) =
    if (slice_index_or parts.planes plane.0 no_plane).surface then None else Some (record { airport = airport; hour = (dep.0 + after) / 60 })

-- where and when a leg departs by its frozen row, and where and when it arrives
abbrev pub departs_in : Parts → LegInfo × Option Row → Option AirportHour
departs_in parts pair = hour_taken parts pair.0.origin 0 pair.1

abbrev pub arrives_in : Parts → LegInfo × Option Row → Option AirportHour
arrives_in parts pair = hour_taken parts pair.0.dest pair.0.block pair.1

-- the last arrival of frozen rows that fly aircraft p; 0 where there are none
abbrev pub last_landing : ℕ → List (LegInfo × Option Row) → ℕ
last_landing p rows = fold (λ last pair. max last (lands_frozen p pair.0.block pair.1)) 0 rows

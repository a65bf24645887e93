-- Slots: hours of airports, their order, their caps, and the items of C10 and C11.
use Rattle.std.specs.Prelude.{ℕ, ◌<◌, Bool, ◌&&◌, ◌==◌, Option}
use Rattle.std.specs.Ordering.{nat_cmp, ordering_then}
use Rattle.std.specs.declared.cmp.Ordering.{Ordering}
use Rattle.desk_data.specs.declared.broken.Broken.{Broken}
use Rattle.desk_data.specs.declared.broken.Broken.TheVariants.{C10, C11}
use Rattle.desk_data.specs.Situation.{Situation, airports_of}
use Rattle.desk_data.specs.Hours.{dep_cap, arr_cap}
use Rattle.desk_rules.specs.Least.{all_hours}
use Rattle.hour_counts.specs.declared.slot.Slot.{Slot}
use Rattle.hour_counts.specs.declared.slot.Movement.{Movement}
use Rattle.hour_counts.specs.declared.slot.Movement.TheVariants.{Departure, Arrival}

abbrev pub rank : Movement → ℕ
rank Departure = 0
rank Arrival = 1

-- whether both are one slot
abbrev pub is_slot : Slot → Slot → Bool
is_slot s t = (rank s.movement == rank t.movement) && ((s.airport.0 == t.airport.0) && (s.hour == t.hour))

-- departures before arrivals, then by airport, then by hour
abbrev pub slot_cmp : Slot → Slot → Ordering
slot_cmp s t = ordering_then (nat_cmp (rank s.movement) (rank t.movement)) (ordering_then (nat_cmp s.airport.0 t.airport.0) (nat_cmp s.hour t.hour))

-- a slot is of an airport of the day and of the hundred years
pub record IsSlot (I : Situation) (s : Slot) : Type 0 where
  pub airport : s.airport.0 < airports_of I
  pub hour : s.hour < all_hours

-- how many legs may take a slot
abbrev pub cap_for : Movement → Situation → Slot → Option ℕ
cap_for Departure I s = dep_cap I s.airport.0 s.hour
cap_for Arrival I s = arr_cap I s.airport.0 s.hour

abbrev pub cap : Situation → Slot → Option ℕ
cap I s = cap_for s.movement I s

-- the item that is broken where more take it
abbrev pub item_for : Movement → Slot → Broken
item_for Departure s = C10 s.airport s.hour
item_for Arrival s = C11 s.airport s.hour

abbrev pub item : Slot → Broken
item s = item_for s.movement s

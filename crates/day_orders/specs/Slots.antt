-- Hours of airports, as a list: one hour of one airport stands in it as often as it is taken.
use Rattle.std.specs.Prelude.{ℕ, ◌≤◌, Bool, ◌&&◌, ◌||◌, nat_lt, nat_le, ◌==◌, List, length, count_by}
use Rattle.std.specs.Ordering.{nat_cmp, ordering_then}
use Rattle.std.specs.List.Sorted.{IsSorted}
use Rattle.std.specs.declared.cmp.Ordering.{Ordering}
use Rattle.day_orders.specs.declared.slots.AirportHour.{AirportHour}

-- how often hour h of airport a is taken
abbrev pub slot_count : ℕ → ℕ → List AirportHour → ℕ
slot_count a h slots = count_by (λ slot. (slot.airport.0 == a) && (slot.hour == h)) slots

-- by airport, then by hour
abbrev pub slot_cmp : AirportHour → AirportHour → Ordering
slot_cmp s t = ordering_then (nat_cmp s.airport.0 t.airport.0) (nat_cmp s.hour t.hour)

-- hours of airports in order, no more than a day has legs
pub record AreSlots (slots : List AirportHour) : Type 0 where
  pub order : IsSorted slot_cmp slots
  pub few : length slots ≤ 20000

-- whether one stands before hour h of airport a
abbrev pub is_before : ℕ → ℕ → AirportHour → Bool
is_before a h slot = nat_lt slot.airport.0 a || ((slot.airport.0 == a) && nat_lt slot.hour h)

-- whether it stands before the next hour
abbrev pub is_up_to : ℕ → ℕ → AirportHour → Bool
is_up_to a h slot = nat_lt slot.airport.0 a || ((slot.airport.0 == a) && nat_le slot.hour h)

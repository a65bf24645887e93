-- What is kept of the orders.
use Rattle.std.specs.Prelude.{◌≡◌, ℕ, ◌<◌, nat_le, if◌then◌else◌, List, [], ◌++◌, Option, Some, None, length, All, slice_index_or, replicate}
use Rattle.std.specs.List.{filter_map}
use Rattle.std.specs.List.Sorted.{IsNonDecreasingBy}
use Rattle.std.specs.Option.{option_flatten, option_or}
use Rattle.desk_units.specs.declared.numbers.Minute.{Minute}
use Rattle.day_orders.specs.declared.hours.CapChange.{CapChange}
use Rattle.day_orders.specs.declared.hours.HourCap.{HourCap}
use Rattle.day_orders.specs.declared.orders.Order.{Order}
use Rattle.day_orders.specs.declared.orders.Order.TheVariants.{Flight, Aircraft, Field}
use Rattle.day_orders.specs.LastOrders.{last_order_on_leg, span_of, last_word, order_on_hour}

-- by leg, what its last order says; by aircraft, its spans; by airport, the changes of what orders say of its hours
pub record KeptLists : Type 0 where
  pub legs : List (Option (Option ℕ))
  pub spans : List (List (Minute × Minute))
  pub hours : List (List CapChange)

-- changes stand in the order of their hours
abbrev pub AreInOrder : List CapChange → Type 0
AreInOrder changes = IsNonDecreasingBy (λ change. change.hour) changes

-- what a change says of hour h
abbrev pub cap_from : ℕ → CapChange → Option (Option HourCap)
cap_from h change = if nat_le change.hour h then Some change.cap else None

-- the last change at or before hour h decides
unfoldable pub kept_cap : List CapChange → ℕ → Option HourCap
kept_cap changes h = option_flatten (last_word (cap_from h) changes)

abbrev pub kept_leg : KeptLists → ℕ → Option (Option ℕ)
kept_leg kept x = slice_index_or kept.legs x None

abbrev pub kept_spans : KeptLists → ℕ → List (Minute × Minute)
kept_spans kept p = slice_index_or kept.spans p []

abbrev pub kept_hours : KeptLists → ℕ → List CapChange
kept_hours kept a = slice_index_or kept.hours a []

-- an order speaks of a leg, an aircraft or an airport of which something is kept
abbrev pub HasPlace : KeptLists → Order → Type 0
HasPlace kept (Flight leg delay) = leg.0 < length kept.legs
HasPlace kept (Aircraft plane from to) = plane.0 < length kept.spans
HasPlace kept (Field airport from to deps arrs) = airport.0 < length kept.hours

-- what is kept after these orders, in terms of what was kept before them
pub record Adds (orders : List Order) (old new : KeptLists) : Type 0 where
  pub all_legs : length new.legs ≡ length old.legs
  pub all_planes : length new.spans ≡ length old.spans
  pub all_airports : length new.hours ≡ length old.hours
  pub legs : (x : ℕ) → kept_leg new x ≡ option_or (last_order_on_leg x orders) (kept_leg old x)
  pub spans : (p : ℕ) → kept_spans new p ≡ kept_spans old p ++ filter_map (span_of p) orders
  pub in_order : All AreInOrder new.hours
  pub hours : (a h : ℕ) → kept_cap (kept_hours new a) h ≡ option_or (last_word (order_on_hour a h) orders) (kept_cap (kept_hours old a) h)

-- what is kept of no orders, by how many legs, aircraft and airports there are
abbrev pub nothing_kept : ℕ → ℕ → ℕ → KeptLists
nothing_kept legs planes airports = record { legs = replicate legs None; spans = replicate planes []; hours = replicate airports [] }

-- What orders say of a leg, an aircraft and an hour of an airport. Hour h is the minutes from 60h to 60h + 59.
use Rattle.std.specs.Prelude.{ℕ, ◌+◌, ◌*◌, max, Bool, ◌&&◌, nat_lt, ◌==◌, if◌then◌else◌, List, [], ◌∷◌, Option, Some, None}
use Rattle.std.specs.Option.{option_or}
use Rattle.desk_units.specs.declared.numbers.Minute.{Minute}
use Rattle.day_orders.specs.declared.hours.HourCap.{HourCap}
use Rattle.day_orders.specs.declared.orders.Order.{Order}
use Rattle.day_orders.specs.declared.orders.Order.TheVariants.{Flight, Aircraft, Field}

-- what an order says of leg x: a delay, or None inside where it is off
abbrev pub order_on_leg : ℕ → Order → Option (Option ℕ)
order_on_leg x (Flight leg delay) = if leg.0 == x then Some delay else None
order_on_leg x order = None

-- the last flight order of leg x decides
unfoldable pub last_order_on_leg : ℕ → List Order → Option (Option ℕ)
last_order_on_leg x [] = None
last_order_on_leg x (order ∷ orders) = option_or (last_order_on_leg x orders) (order_on_leg x order)

-- the span that an order puts aircraft p out of service
abbrev pub span_of : ℕ → Order → Option (Minute × Minute)
span_of p (Aircraft plane from to) = if plane.0 == p then Some (from, to) else None
span_of p order = None

-- the last row that says anything decides
unfoldable pub last_word : {X Y : Type 0} → (X → Option Y) → List X → Option Y
last_word says [] = None
last_word says (row ∷ rows) = option_or (last_word says rows) (says row)

-- whether a span, from one minute up to but not including the other, has a minute in hour h: it has one at all, begins before the hour's end, and ends after the hour's start
unfoldable pub touches : ℕ → ℕ → ℕ → Bool
touches h from to = nat_lt from to && (nat_lt from (60 * h + 60) && nat_lt (60 * h) to)

-- what an order says of airport a in hour h
abbrev pub order_on_hour : ℕ → ℕ → Order → Option HourCap
order_on_hour a h (Field airport from to deps arrs) = if airport.0 == a && touches h from.0 to.0 then Some (record { deps = deps; arrs = arrs }) else None
order_on_hour a h order = None

-- what is left of a span after a moment: it begins no earlier than that, and nothing is left where no minute is
abbrev pub span_after : ℕ → Minute × Minute → Option (Minute × Minute)
span_after at span = if nat_lt (max span.0.0 at) span.1.0 then Some (record { 0 = max span.0.0 at }, span.1) else None

-- What the orders of a day decide: of a leg and of an airport's hour the last one does.
use Rattle.std.specs.Prelude.{◌≡◌, ℕ, ◌+◌, ◌*◌, ◌<◌, ◌≤◌, max, nat_lt, false, ◌||◌, if◌then◌else◌, Option, Some, None, is_none, unwrap_or, List, ◌∷◌, ◌++◌, All, sum_by}
use Rattle.std.specs.List.{filter_map}
use Rattle.std.specs.Option.{option_map}
use Rattle.desk_units.specs.declared.numbers.Cabin.{Cabin}
use Rattle.desk_units.specs.declared.numbers.Leg.{Leg}
use Rattle.desk_units.specs.declared.numbers.Minute.{Minute}
use Rattle.day_orders.specs.declared.orders.Batch.{Batch}
use Rattle.day_orders.specs.declared.orders.Order.{Order}
use Rattle.day_orders.specs.declared.orders.Order.TheVariants.{Flight, Field}
use Rattle.day_orders.specs.LastOrders.{span_of, span_after}
use Rattle.desk_data.specs.declared.row.Group.{Group}
use Rattle.desk_data.specs.Hours.{hour_cap, dep_cap, arr_cap, frozen_departures, frozen_arrivals}
use Rattle.desk_data.specs.PlanRows.{PlanRows}
use Rattle.desk_data.specs.Progress.{with_batch}
use Rattle.desk_data.specs.Situation.{Situation, reservations_of, leg_at, plane_at, res_at, ordered, called_off, fixed, earliest, ordered_row, due, ordered_spans, spans, begins_as_begun, bound}

-- a flight order of leg x
abbrev pub IsOfLeg : ℕ → Order → Type 0
IsOfLeg x (Flight leg delay) = leg.0 ≡ x
IsOfLeg x order = ⊥

-- a span, from one minute up to but not including the other, has a minute in hour h
pub record HasMinuteIn (h from to : ℕ) : Type 0 where
  pub minute : ℕ
  pub begun : 60 * h ≤ minute
  pub within : minute < 60 * h + 60
  pub started : from ≤ minute
  pub unended : minute < to

-- an order of airport a whose span has a minute in hour h
abbrev pub IsOfHour : ℕ → ℕ → Order → Type 0
IsOfHour a h (Field airport from to deps arrs) = (airport.0 ≡ a) × HasMinuteIn h from.0 to.0
IsOfHour a h order = ⊥

-- the last flight order of a leg decides: it takes the leg off, or it delays it from its scheduled departure. Without one the leg is as scheduled
pub record ObeysOfLeg (I : Situation) (x : ℕ) : Type 0 where
  pub last : (before after : List Order) (delay : Option ℕ) → I.orders ≡ before ++ Flight (record { 0 = x }) delay ∷ after → All (λ order. IsOfLeg x order → ⊥) after → (called_off I x ≡ is_none delay) × (ordered I x ≡ (leg_at I x).sched.0 + unwrap_or delay 0)
  pub none : All (λ order. IsOfLeg x order → ⊥) I.orders → (called_off I x ≡ false) × (ordered I x ≡ (leg_at I x).sched.0)

-- the last order of an airport that has a minute in the hour decides both caps of the hour, but for what has left in it
pub record ObeysOfHour (I : Situation) (a h : ℕ) : Type 0 where
  pub last : (before after : List Order) (from to : Minute) (deps arrs : ℕ) → I.orders ≡ before ++ Field (record { 0 = a }) from to deps arrs ∷ after → HasMinuteIn h from.0 to.0 → All (λ order. IsOfHour a h order → ⊥) after → (dep_cap I a h ≡ Some (max deps (frozen_departures I a h))) × (arr_cap I a h ≡ Some (max arrs (frozen_arrivals I a h)))

-- what a batch leaves as it was: what the orders say of a leg of which it has no flight order, and of an hour in which no order of the airport has a minute. Spans out of service are added after those that the orders gave
pub record AddsOrders (I : Situation) (P : PlanRows) (B : Batch) : Type 0 where
  pub leg : (x : ℕ) → All (λ order. IsOfLeg x order → ⊥) B.orders → (called_off (with_batch I P B) x ≡ called_off I x) × (ordered (with_batch I P B) x ≡ ordered I x)
  pub hour : (a h : ℕ) → All (λ order. IsOfHour a h order → ⊥) B.orders → hour_cap (with_batch I P B) a h ≡ hour_cap I a h
  pub plane : (p : ℕ) → ordered_spans (with_batch I P B) p ≡ ordered_spans I p ++ filter_map (span_of p) B.orders

-- a day of which nothing has left is as its orders say: a leg is fixed where its aircraft is surface transport or it is scheduled before the window, it departs as ordered at the earliest, spans and hours are as ordered, and a path is bound to what has begun alone
pub record IsAsOrdered (I : Situation) : Type 0 where
  pub departs : (x : ℕ) → earliest I x ≡ ordered I x
  pub is_fixed : (x : ℕ) → fixed I x ≡ ((plane_at I (leg_at I x).plane.0).surface || nat_lt (leg_at I x).sched.0 I.parts.from.0)
  pub row : (x : ℕ) → due I x ≡ (if fixed I x then Some (ordered_row I x) else None)
  pub out : (p : ℕ) → spans I p ≡ filter_map (span_after 0) (ordered_spans I p)
  pub departures : (a h : ℕ) → dep_cap I a h ≡ option_map (λ cap. cap.deps) (hour_cap I a h)
  pub arrivals : (a h : ℕ) → arr_cap I a h ≡ option_map (λ cap. cap.arrs) (hour_cap I a h)
  pub paths : (r : ℕ) (groups : List Group) (path : List (Leg × Cabin)) → r < reservations_of I → sum_by (λ group. group.count) groups ≤ (res_at I r).count → bound I r groups path ≡ begins_as_begun I r path

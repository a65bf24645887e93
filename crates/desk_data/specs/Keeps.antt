-- What an instance keeps, so that it need not be looked for, agrees with its rows, its orders and what has left.
use Rattle.std.specs.Prelude.{◌≡◌, ℕ, ◌<◌, List, [], length, All, slice_index_or}
use Rattle.desk_units.specs.declared.numbers.Minute.{Minute}
use Rattle.desk_units.specs.declared.tariff.TariffRow.{TariffRow}
use Rattle.day_orders.specs.LastOrders.{last_order_on_leg, last_word, order_on_hour}
use Rattle.day_orders.specs.KeptLists.{KeptLists, AreInOrder, kept_cap, kept_leg, kept_spans, kept_hours}
use Rattle.day_orders.specs.declared.slots.AirportHour.{AirportHour}
use Rattle.day_orders.specs.Slots.{slot_count}
use Rattle.desk_data.specs.declared.booked.Booked.{Booked}
use Rattle.desk_data.specs.Booked.{AreBookings}
use Rattle.desk_data.specs.Hours.{frozen_departures, frozen_arrivals}
use Rattle.desk_data.specs.Situation.{Situation, legs_of, planes_of, airports_of, landed, ordered_spans, spans}

-- what is kept is what the orders say
pub record Keeps (I : Situation) (kept : KeptLists) : Type 0 where
  pub all_legs : length kept.legs ≡ legs_of I
  pub all_planes : length kept.spans ≡ planes_of I
  pub all_airports : length kept.hours ≡ airports_of I
  pub legs : (x : ℕ) → x < legs_of I → kept_leg kept x ≡ last_order_on_leg x I.orders
  pub spans : (p : ℕ) → p < planes_of I → kept_spans kept p ≡ ordered_spans I p
  pub in_order : All AreInOrder kept.hours
  pub hours : (a h : ℕ) → a < airports_of I → kept_cap (kept_hours kept a) h ≡ last_word (order_on_hour a h) I.orders

-- what is kept of what has left: how many frozen rows depart from an airport in an hour and arrive there, and when an aircraft has landed
pub record KeepsLeft (I : Situation) (departing arriving : List AirportHour) (landings : List Minute) : Type 0 where
  pub departures : (a h : ℕ) → slot_count a h departing ≡ frozen_departures I a h
  pub arrivals : (a h : ℕ) → slot_count a h arriving ≡ frozen_arrivals I a h
  pub all_planes : length landings ≡ planes_of I
  pub landed : (p : ℕ) → p < planes_of I → (slice_index_or landings p (record { 0 = 0 })).0 ≡ landed I p

-- what is kept of both: the spans out of service as they are left, by aircraft
pub record KeepsSpans (I : Situation) (left : List (List (Minute × Minute))) : Type 0 where
  pub all_planes : length left ≡ planes_of I
  pub spans : (p : ℕ) → p < planes_of I → slice_index_or left p [] ≡ spans I p

-- what the inside of an instance keeps of its rows: the prices are those of its tariff, and the bookings are what its reservations booked
pub record KeepsRows (I : Situation) (prices : List TariffRow) (bookings : List Booked) : Type 0 where
  pub priced : prices ≡ I.parts.tariff.rows
  pub booked : AreBookings I bookings

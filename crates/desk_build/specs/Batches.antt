-- The batches of the alt files and of the feed: names become numbers.
use Rattle.std.specs.Prelude.{ℕ, ◌==◌, List, [], ◌∷◌, ◌++◌, map, Option, Some, None, unwrap_or}
use Rattle.std.specs.List.{filter, filter_map, range_with_len}
use Rattle.std.specs.Option.{option_or}
use Rattle.desk_units.specs.declared.numbers.Minute.{Minute}
use Rattle.desk_units.specs.declared.numbers.Plane.{Plane}
use Rattle.day_orders.specs.declared.orders.Order.{Order}
use Rattle.day_orders.specs.declared.orders.Order.TheVariants as order
use Rattle.day_orders.specs.declared.orders.Batch.{Batch}
use Rattle.file_rows.specs.declared.fleet.AircraftRow.{AircraftRow}
use Rattle.file_rows.specs.declared.disruptions.AltRow.{AltRow}
use Rattle.file_rows.specs.declared.disruptions.AltRow.TheVariants as alt
use Rattle.file_rows.specs.Moments.{moment_in}
use Rattle.build_tables.specs.declared.files.Files.{Files}
use Rattle.build_tables.specs.Names.{aircraft_place}
use Rattle.build_tables.specs.Batches.{last_batch, last_moment_in}
use Rattle.desk_build.specs.Legs.{airport_of, leg_at}

-- the number of an aircraft, else 0
abbrev pub plane_of : List AircraftRow → List ℕ → Plane
plane_of aircraft name = record { 0 = unwrap_or (aircraft_place aircraft name) 0 }

-- the order of a row; one that only says that there is a batch, or when it becomes known, has none
abbrev pub order_of : Files → AltRow → Option Order
order_of x (alt.Flight line flight day delay) = Some (order.Flight (leg_at x.rotations flight day) delay)
order_of x (alt.Aircraft line aircraft from to) = Some (order.Aircraft (plane_of x.aircraft aircraft) from to)
order_of x (alt.Field line airport from to deps arrs) = Some (order.Field (airport_of x.airports airport) from to deps arrs)
order_of x (alt.Nothing line) = None
order_of x (alt.At line at) = None

-- the orders of rows, and of rows of the feed
abbrev pub orders_of : Files → List AltRow → List Order
orders_of x rows = filter_map (order_of x) rows

abbrev pub orders_fed : Files → List (ℕ × AltRow) → List Order
orders_fed x feed = filter_map (λ fed. order_of x fed.1) feed

-- the orders of the alt files, in file order
abbrev pub opening_orders : Files → List Order
opening_orders x = orders_of x x.alt_flights ++ (orders_of x x.alt_aircraft ++ orders_of x x.alt_airports)

-- those rows of the feed that are of batch k
abbrev pub rows_in_batch : List (ℕ × AltRow) → ℕ → List (ℕ × AltRow)
rows_in_batch feed k = filter (λ fed. fed.0 == k) feed

-- the orders of these rows
abbrev pub orders_in_batch : Files → List (ℕ × AltRow) → ℕ → List Order
orders_in_batch x feed k = orders_fed x (rows_in_batch feed k)

-- and the moment that one of them tells, if one does
abbrev pub moment_of_batch : List (ℕ × AltRow) → ℕ → Option Minute
moment_of_batch feed k = last_moment_in (rows_in_batch feed k)

-- a batch that becomes known at this moment, where one is told, with these orders
abbrev pub batch_with : Option Minute → List Order → Batch
batch_with at orders = record { at = at; orders = orders }

-- a batch, with what one more row of it says: its order, or the moment of the batch
abbrev pub with_row : Files → Batch → AltRow → Batch
with_row x batch row = batch_with (option_or (moment_in row) batch.at) (batch.orders ++ orders_of x (row ∷ []))

-- batch k of the feed
abbrev pub batch_in : Files → List (ℕ × AltRow) → ℕ → Batch
batch_in x feed k = batch_with (moment_of_batch feed k) (orders_in_batch x feed k)

-- batch 0 has the orders of the alt files and tells no moment; each batch from 1 to the last of the feed has the orders of its rows, and the moment that they tell
unfoldable pub batches_of : Files → List Batch
batches_of x = batch_with None (opening_orders x) ∷ map (batch_in x x.feed) (range_with_len 1 (last_batch x.feed))

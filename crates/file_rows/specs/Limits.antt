-- How many bytes and rows the files may have, and what else in them has a limit.
use Rattle.std.specs.Prelude.{ℕ}

-- the bytes of a text file, and of journal.csv
abbrev pub most_bytes : ℕ
most_bytes = 67108864

abbrev pub most_journal_bytes : ℕ
most_journal_bytes = 268435456

-- the rows of flights.csv, and those of rotations.csv
abbrev pub most_flights : ℕ
most_flights = 20000

-- the rows of aircraft.csv
abbrev pub most_aircraft : ℕ
most_aircraft = 1000

-- the rows of airports.csv
abbrev pub most_airports : ℕ
most_airports = 500

-- the rows of dist.csv
abbrev pub most_distances : ℕ
most_distances = 250000

-- the rows of itineraries.csv, and the passengers and the legs of a reservation
abbrev pub most_itineraries : ℕ
most_itineraries = 100000

abbrev pub most_passengers : ℕ
most_passengers = 1000

abbrev pub most_legs : ℕ
most_legs = 8

-- the groups of all rows of position.csv
abbrev pub most_groups : ℕ
most_groups = 10000

-- the rows of tariff.csv
abbrev pub most_tariff_rows : ℕ
most_tariff_rows = 1000

-- the batches of feed.csv, and the orders of the alt files and of feed.csv together
abbrev pub most_batches : ℕ
most_batches = 1000

abbrev pub most_orders : ℕ
most_orders = 100000

-- the latest scheduled departure, in minutes from the start of 2000
abbrev pub latest_departure : ℕ
latest_departure = 52480000

-- the latest moment at which a batch may become known, in minutes from the start of 2000
abbrev pub latest_moment : ℕ
latest_moment = 52480000

-- the moment before which each departure of a plan is, in minutes from the start of 2000
abbrev pub end_of_time : ℕ
end_of_time = 52500000

-- Why rows are not joined: the first refusal in the order of the files, then of their lines, then of the causes.
use Rattle.std.specs.Prelude.{ℕ, Option, option_map}
use Rattle.std.specs.Option.{option_or}
use Rattle.desk_folder.specs.declared.files.File.{File}
use Rattle.desk_folder.specs.declared.files.File.TheVariants as file
use Rattle.file_rows.specs.declared.cause.Cause.{Cause}
use Rattle.file_rows.specs.Limits.{most_orders}
use Rattle.build_tables.specs.declared.files.Files.{Files}
use Rattle.build_refusals.specs.First.{first_refusal_in}
use Rattle.build_refusals.specs.Config.{window_refusal}
use Rattle.build_refusals.specs.Flights.{flight_cause}
use Rattle.build_refusals.specs.Rotations.{rotation_cause}
use Rattle.build_refusals.specs.Aircraft.{aircraft_cause}
use Rattle.build_refusals.specs.Airports.{airport_cause}
use Rattle.build_refusals.specs.Dist.{dist_cause}
use Rattle.build_refusals.specs.Itineraries.{itinerary_cause}
use Rattle.build_refusals.specs.Position.{position_cause}
use Rattle.build_refusals.specs.Orders.{line_of, room_after, alt_cause}
use Rattle.build_refusals.specs.Tariff.{tariff_refusal}
use Rattle.build_refusals.specs.Feed.{feed_cause}

-- a cause at a line of a file
abbrev pub Refusal : Type 0
Refusal = File × ℕ × Cause

-- a refusal in this file
abbrev pub in_file : File → Option (ℕ × Cause) → Option Refusal
in_file f refused = option_map (λ r. (f, r.0, r.1)) refused

-- the first refusal of the schedule: the window, flights and rotations, aircraft, airports and distances
unfoldable pub refusal_of_schedule : Files → Option Refusal
refusal_of_schedule x =
    option_or (in_file file.Config (window_refusal x.config))
    (option_or (in_file file.Flights (first_refusal_in (flight_cause x.flights) (λ row. row.line) x.flights))
    (option_or (in_file file.Rotations (first_refusal_in (rotation_cause x) (λ row. row.line) x.rotations))
    (option_or (in_file file.Aircraft (first_refusal_in (aircraft_cause x) (λ row. row.line) x.aircraft))
    (option_or (in_file file.Airports (first_refusal_in (airport_cause x.airports) (λ row. row.line) x.airports))
    (in_file file.Dist (first_refusal_in dist_cause (λ row. row.line) x.dist))))))

-- how many orders may come in a file: as many as there may be in all, without those of the files before it
abbrev pub room_for_aircraft : Files → ℕ
room_for_aircraft x = room_after most_orders x.alt_flights

abbrev pub room_for_airports : Files → ℕ
room_for_airports x = room_after (room_for_aircraft x) x.alt_aircraft

abbrev pub room_for_feed : Files → ℕ
room_for_feed x = room_after (room_for_airports x) x.alt_airports

-- of the alt files: flights, aircraft and airports
unfoldable pub refusal_of_alternatives : Files → Option Refusal
refusal_of_alternatives x =
    option_or (in_file file.AltFlights (first_refusal_in (alt_cause x most_orders x.alt_flights) line_of x.alt_flights))
    (option_or (in_file file.AltAircraft (first_refusal_in (alt_cause x (room_for_aircraft x) x.alt_aircraft) line_of x.alt_aircraft))
    (in_file file.AltAirports (first_refusal_in (alt_cause x (room_for_airports x) x.alt_airports) line_of x.alt_airports)))

-- and of what is asked of the schedule: itineraries, positions, the alt files, the tariff and the feed
unfoldable pub refusal_of_demand : Files → Option Refusal
refusal_of_demand x =
    option_or (in_file file.Itineraries (first_refusal_in (itinerary_cause x) (λ row. row.line) x.itineraries))
    (option_or (in_file file.Position (first_refusal_in (position_cause x) (λ row. row.line) x.position))
    (option_or (refusal_of_alternatives x)
    (option_or (in_file file.Tariff (tariff_refusal x.tariff.rows))
    (in_file file.Feed (first_refusal_in (feed_cause x (room_for_feed x) x.feed) (λ fed. line_of fed.1) x.feed)))))

-- the first refusal of the rows of all files, if there is one
unfoldable pub refusal_of : Files → Option Refusal
refusal_of x = option_or (refusal_of_schedule x) (refusal_of_demand x)

-- What holds of each row where nothing is refused.
use Rattle.std.proofs.Common.{◌≡◌, ℕ, ◌+◌, ◌<◌, ◌≤◌, true, false, ◌&&◌, ◌||◌, leb, ltb, List, [], ◌∷◌, length, take, get_or, bytes_eq, Option, Some, None, arith, subst, All}
use Rattle.std.specs.Prelude.{is_some, option_map, unwrap_or}
use Rattle.std.specs.List.{list_any, sum_by, last_or}
use Rattle.std.proofs.lemmas.Bool.{and_parts, or_parts, not-false, ltb-false}
use Rattle.std.proofs.lemmas.List.{take_all}
use Rattle.std.proofs.lemmas.List.Elements.{All-head, All-tail}
use Rattle.desk_folder.specs.declared.files.File.TheVariants as file
use Rattle.file_rows.specs.declared.network.AirportRow.{AirportRow}
use Rattle.file_rows.specs.declared.legs.FlightRow.{FlightRow}
use Rattle.file_rows.specs.declared.legs.RotationRow.{RotationRow}
use Rattle.file_rows.specs.declared.fleet.AircraftRow.{AircraftRow}
use Rattle.file_rows.specs.declared.fleet.PositionRow.{PositionRow}
use Rattle.file_rows.specs.declared.passengers.ItineraryRow.{ItineraryRow}
use Rattle.file_rows.specs.declared.disruptions.AltRow.{AltRow}
use Rattle.desk_units.specs.declared.tariff.TariffRow.{TariffRow}
use Rattle.tariff_prices.specs.Rows.{same_key}
use Rattle.build_tables.specs.declared.files.Files.{Files}
use Rattle.file_rows.specs.Limits.{most_flights, most_aircraft, most_airports, most_itineraries, most_passengers, most_legs, most_groups, most_tariff_rows, most_orders, most_batches}
use Rattle.build_tables.specs.Names.{airport_place}
use Rattle.build_tables.specs.Batches.{number_of_last, last_batch, moment_before}
use Rattle.build_tables.specs.Fitting.{IsAboutKnown}
use Rattle.build_refusals.specs.First.{first_refusal_in}
use Rattle.build_refusals.specs.Flights.{flight_cause, has_good_previous}
use Rattle.build_refusals.specs.Rotations.{rotation_cause, departs_late, is_known, has_distance, is_same_leg}
use Rattle.build_refusals.specs.Aircraft.{aircraft_cause, has_known_maintenance, has_good_window}
use Rattle.build_refusals.specs.Airports.{airport_cause}
use Rattle.build_refusals.specs.Itineraries.{itinerary_cause, is_same_reservation, has_known_legs}
use Rattle.build_refusals.specs.Position.{groups_in, position_cause}
use Rattle.build_refusals.specs.Tariff.{tariff_cause, tariff_refusal}
use Rattle.build_refusals.specs.Orders.{line_of, alt_cause}
use Rattle.build_refusals.specs.Feed.{feed_cause}
use Rattle.build_refusals.specs.Refusals.{refusal_of_schedule, room_for_aircraft, room_for_airports, room_for_feed, refusal_of_alternatives, refusal_of_demand, refusal_of}
use Rattle.build_refusals.proofs.NoneLemmas.{neither, not_in_file, passed, held, none_refused, none_refused_at, few_rows}
use Rattle.build_refusals.proofs.OrderPasses.{order_passes, FedPasses, fed_passes}

-- nothing is refused in any file
pub record NoneRefused (x : Files) : Type 0 where
  pub flights : first_refusal_in (flight_cause x.flights) (λ row. row.line) x.flights ≡ None
  pub rotations : first_refusal_in (rotation_cause x) (λ row. row.line) x.rotations ≡ None
  pub aircraft : first_refusal_in (aircraft_cause x) (λ row. row.line) x.aircraft ≡ None
  pub airports : first_refusal_in (airport_cause x.airports) (λ row. row.line) x.airports ≡ None
  pub itineraries : first_refusal_in (itinerary_cause x) (λ row. row.line) x.itineraries ≡ None
  pub position : first_refusal_in (position_cause x) (λ row. row.line) x.position ≡ None
  pub alt_flights : first_refusal_in (alt_cause x most_orders x.alt_flights) line_of x.alt_flights ≡ None
  pub alt_aircraft : first_refusal_in (alt_cause x (room_for_aircraft x) x.alt_aircraft) line_of x.alt_aircraft ≡ None
  pub alt_airports : first_refusal_in (alt_cause x (room_for_airports x) x.alt_airports) line_of x.alt_airports ≡ None
  pub tariff : tariff_refusal x.tariff.rows ≡ None
  pub feed : first_refusal_in (feed_cause x (room_for_feed x) x.feed) (λ fed. line_of fed.1) x.feed ≡ None

pub none_refused_in : (x : Files) → refusal_of x ≡ None → NoneRefused x
unfolding refusal_of refusal_of_schedule refusal_of_demand refusal_of_alternatives
none_refused_in x e =
    let both = neither (refusal_of_schedule x) (refusal_of_demand x) e in
    let window = neither _ _ both.0 in
    let flights = neither _ _ window.1 in
    let rotations = neither _ _ flights.1 in
    let aircraft = neither _ _ rotations.1 in
    let airports = neither _ _ aircraft.1 in
    let itineraries = neither _ _ both.1 in
    let position = neither _ _ itineraries.1 in
    let alternatives = neither (refusal_of_alternatives x) _ position.1 in
    let alt_flights = neither _ _ alternatives.0 in
    let alt_aircraft = neither _ _ alt_flights.1 in
    let tariff = neither _ _ alternatives.1 in
    record {
      flights = not_in_file file.Flights _ flights.0;
      rotations = not_in_file file.Rotations _ rotations.0;
      aircraft = not_in_file file.Aircraft _ aircraft.0;
      airports = not_in_file file.Airports _ airports.0;
      itineraries = not_in_file file.Itineraries _ itineraries.0;
      position = not_in_file file.Position _ position.0;
      alt_flights = not_in_file file.AltFlights _ alt_flights.0;
      alt_aircraft = not_in_file file.AltAircraft _ alt_aircraft.0;
      alt_airports = not_in_file file.AltAirports _ alt_aircraft.1;
      tariff = not_in_file file.Tariff _ tariff.0;
      feed = not_in_file file.Feed _ tariff.1;
    }

-- what the causes of a file say of a row at its place
pub record FlightPasses (flights : List FlightRow) (n : ℕ) (row : FlightRow) : Type 0 where
  pub limit : leb most_flights n ≡ false
  pub new : list_any (λ (f : FlightRow). bytes_eq row.flight f.flight) (take n flights) ≡ false
  pub previous : has_good_previous flights row ≡ true

pub record RotationPasses (x : Files) (n : ℕ) (row : RotationRow) : Type 0 where
  pub limit : leb most_flights n ≡ false
  pub soon : departs_late x.flights row ≡ false
  pub known : is_known x row ≡ true
  pub distance : has_distance x row ≡ true
  pub new : list_any (is_same_leg row) (take n x.rotations) ≡ false

pub record AircraftPasses (x : Files) (n : ℕ) (row : AircraftRow) : Type 0 where
  pub limit : leb most_aircraft n ≡ false
  pub new : list_any (λ (a : AircraftRow). bytes_eq row.name a.name) (take n x.aircraft) ≡ false
  pub origin : is_some (airport_place x.airports row.origin) ≡ true
  pub maintenance : has_known_maintenance x.airports row.maint ≡ true
  pub window : has_good_window row.maint ≡ true

pub record AirportPasses (airports : List AirportRow) (n : ℕ) (row : AirportRow) : Type 0 where
  pub limit : leb most_airports n ≡ false
  pub new : list_any (λ (a : AirportRow). bytes_eq row.airport a.airport) (take n airports) ≡ false

pub record ItineraryPasses (x : Files) (n : ℕ) (row : ItineraryRow) : Type 0 where
  pub limit : leb most_itineraries n ≡ false
  pub count : ltb most_passengers row.count ≡ false
  pub short : ltb most_legs (length row.legs) ≡ false
  pub new : list_any (is_same_reservation row) (take n x.itineraries) ≡ false
  pub known : has_known_legs x.rotations row ≡ true

pub record PositionPasses (x : Files) (n : ℕ) (row : PositionRow) : Type 0 where
  pub limit : ltb most_groups (groups_in (n + 1) x.position) ≡ false
  pub known : is_some (airport_place x.airports row.airport) ≡ true

pub record TariffPasses (rows : List TariffRow) (n : ℕ) (row : TariffRow) : Type 0 where
  pub limit : leb most_tariff_rows n ≡ false
  pub new : list_any (λ before. same_key before row) (take n rows) ≡ false

-- the batch of the last row is within a limit that that of each row is within
last_within : (n : ℕ) (o : Option (ℕ × AltRow)) (feed : List (ℕ × AltRow)) → unwrap_or (option_map (λ (fed : ℕ × AltRow). fed.0) o) 0 ≤ n → All (λ (fed : ℕ × AltRow). fed.0 ≤ n) feed → unwrap_or (option_map (λ (fed : ℕ × AltRow). fed.0) (last_or o feed)) 0 ≤ n
last_within n o [] first each = first
last_within n o (fed ∷ feed) first each = last_within n (Some fed) feed (All-head (λ (f : ℕ × AltRow). f.0 ≤ n) fed feed each) (All-tail (λ (f : ℕ × AltRow). f.0 ≤ n) fed feed each)

flight_passes : (flights : List FlightRow) (n : ℕ) (row : FlightRow) → flight_cause flights n row ≡ None → FlightPasses flights n row
unfolding flight_cause
flight_passes flights n row e =
    let limit = passed _ _ _ e in
    let new = passed _ _ _ limit.1 in
    record { limit = limit.0; new = new.0; previous = held _ _ new.1 }

rotation_passes : (x : Files) (n : ℕ) (row : RotationRow) → rotation_cause x n row ≡ None → RotationPasses x n row
unfolding rotation_cause
rotation_passes x n row e =
    let limit = passed _ _ _ e in
    let known = passed _ _ _ limit.1 in
    let distance = passed _ _ _ known.1 in
    let new = passed _ _ _ distance.1 in
    let within = or_parts (leb most_flights n) (departs_late x.flights row) limit.0 in
    record { limit = within.0; soon = within.1; known = not-false (is_known x row) known.0; distance = not-false (has_distance x row) distance.0; new = new.0 }

aircraft_passes : (x : Files) (n : ℕ) (row : AircraftRow) → aircraft_cause x n row ≡ None → AircraftPasses x n row
unfolding aircraft_cause
aircraft_passes x n row e =
    let limit = passed _ _ _ e in
    let new = passed _ _ _ limit.1 in
    let known = passed _ _ _ new.1 in
    let places = and_parts (is_some (airport_place x.airports row.origin)) (has_known_maintenance x.airports row.maint) (not-false (is_some (airport_place x.airports row.origin) && has_known_maintenance x.airports row.maint) known.0) in
    record { limit = limit.0; new = new.0; origin = places.0; maintenance = places.1; window = held _ _ known.1 }

airport_passes : (airports : List AirportRow) (n : ℕ) (row : AirportRow) → airport_cause airports n row ≡ None → AirportPasses airports n row
unfolding airport_cause
airport_passes airports n row e =
    let limit = passed _ _ _ e in
    let new = passed _ _ _ limit.1 in
    record { limit = limit.0; new = new.0 }

itinerary_passes : (x : Files) (n : ℕ) (row : ItineraryRow) → itinerary_cause x n row ≡ None → ItineraryPasses x n row
unfolding itinerary_cause
itinerary_passes x n row e =
    let limit = passed _ _ _ e in
    let new = passed _ _ _ limit.1 in
    let within = or_parts (leb most_itineraries n) (ltb most_passengers row.count || ltb most_legs (length row.legs)) limit.0 in
    let small = or_parts (ltb most_passengers row.count) (ltb most_legs (length row.legs)) within.1 in
    record { limit = within.0; count = small.0; short = small.1; new = new.0; known = held _ _ new.1 }

position_passes : (x : Files) (n : ℕ) (row : PositionRow) → position_cause x n row ≡ None → PositionPasses x n row
unfolding position_cause
position_passes x n row e =
    let limit = passed _ _ _ e in
    record { limit = limit.0; known = held _ _ limit.1 }

pub tariff_passes : (rows : List TariffRow) (n : ℕ) (row : TariffRow) → tariff_cause rows n row ≡ None → TariffPasses rows n row
unfolding tariff_cause
tariff_passes rows n row e =
    let limit = passed _ _ _ e in
    let new = passed _ _ _ limit.1 in
    record { limit = limit.0; new = new.0 }

-- all groups are within the limit where those up to each row are
few_groups : (rows : List PositionRow) → ((k : ℕ) (d : PositionRow) → k < length rows → ltb most_groups (groups_in (k + 1) rows) ≡ false) → sum_by (λ row. length row.groups) rows ≤ most_groups
few_groups [] each = omega arith
few_groups (row ∷ rows) each =
    let all : List PositionRow = row ∷ rows in
    let last : groups_in (length rows + 1) all ≤ most_groups = ltb-false most_groups (groups_in (length rows + 1) all) (each (length rows) row (omega arith)) in
    subst (λ (front : List PositionRow). sum_by (λ row. length row.groups) front ≤ most_groups) (take_all (length rows + 1) all (omega arith)) last

module _ (x : Files) (e : refusal_of x ≡ None) where
  pub each_flight : (k : ℕ) (d : FlightRow) → k < length x.flights → FlightPasses x.flights k (get_or x.flights k d)
  each_flight k d below = flight_passes x.flights k (get_or x.flights k d) (none_refused (flight_cause x.flights) (λ row. row.line) x.flights (none_refused_in x e).flights k d below)

  pub each_rotation : (k : ℕ) (d : RotationRow) → k < length x.rotations → RotationPasses x k (get_or x.rotations k d)
  each_rotation k d below = rotation_passes x k (get_or x.rotations k d) (none_refused (rotation_cause x) (λ row. row.line) x.rotations (none_refused_in x e).rotations k d below)

  pub each_aircraft : (k : ℕ) (d : AircraftRow) → k < length x.aircraft → AircraftPasses x k (get_or x.aircraft k d)
  each_aircraft k d below = aircraft_passes x k (get_or x.aircraft k d) (none_refused (aircraft_cause x) (λ row. row.line) x.aircraft (none_refused_in x e).aircraft k d below)

  pub each_airport : (k : ℕ) (d : AirportRow) → k < length x.airports → AirportPasses x.airports k (get_or x.airports k d)
  each_airport k d below = airport_passes x.airports k (get_or x.airports k d) (none_refused (airport_cause x.airports) (λ row. row.line) x.airports (none_refused_in x e).airports k d below)

  pub each_itinerary : (k : ℕ) (d : ItineraryRow) → k < length x.itineraries → ItineraryPasses x k (get_or x.itineraries k d)
  each_itinerary k d below = itinerary_passes x k (get_or x.itineraries k d) (none_refused (itinerary_cause x) (λ row. row.line) x.itineraries (none_refused_in x e).itineraries k d below)

  pub each_position : (k : ℕ) (d : PositionRow) → k < length x.position → PositionPasses x k (get_or x.position k d)
  each_position k d below = position_passes x k (get_or x.position k d) (none_refused (position_cause x) (λ row. row.line) x.position (none_refused_in x e).position k d below)

  pub each_tariff : (k : ℕ) (d : TariffRow) → k < length x.tariff.rows → TariffPasses x.tariff.rows k (get_or x.tariff.rows k d)
  each_tariff k d below = tariff_passes x.tariff.rows k (get_or x.tariff.rows k d) (none_refused_at (tariff_cause x.tariff.rows) (λ n row. n + 1) x.tariff.rows (none_refused_in x e).tariff k d below)

  each_order : (room : ℕ) (rows : List AltRow) → first_refusal_in (alt_cause x room rows) line_of rows ≡ None → All (IsAboutKnown x) rows
  each_order room rows none k d below = order_passes x _ (get_or rows k d) (none_refused (alt_cause x room rows) line_of rows none k d below)

  pub each_alt_flight : All (IsAboutKnown x) x.alt_flights
  each_alt_flight = each_order most_orders x.alt_flights (none_refused_in x e).alt_flights

  pub each_alt_aircraft : All (IsAboutKnown x) x.alt_aircraft
  each_alt_aircraft = each_order (room_for_aircraft x) x.alt_aircraft (none_refused_in x e).alt_aircraft

  pub each_alt_airport : All (IsAboutKnown x) x.alt_airports
  each_alt_airport = each_order (room_for_airports x) x.alt_airports (none_refused_in x e).alt_airports

  pub each_fed : (k : ℕ) (d : ℕ × AltRow) → k < length x.feed → FedPasses x (number_of_last (take k x.feed)) (moment_before x.config.from (take k x.feed)) (get_or x.feed k d)
  each_fed k d below = fed_passes x (number_of_last (take k x.feed)) (moment_before x.config.from (take k x.feed)) _ (get_or x.feed k d) (none_refused (feed_cause x (room_for_feed x) x.feed) (λ fed. line_of fed.1) x.feed (none_refused_in x e).feed k d below)

  -- the last batch is within the limit
  pub few_batches : last_batch x.feed ≤ most_batches
  few_batches = last_within most_batches None x.feed (omega arith) (λ k d below. (each_fed k d below).few)

  -- no file has more rows than its limit
  pub few_flights : length x.flights ≤ most_flights
  few_flights = few_rows most_flights x.flights (λ k d below. (each_flight k d below).limit)

  pub few_rotations : length x.rotations ≤ most_flights
  few_rotations = few_rows most_flights x.rotations (λ k d below. (each_rotation k d below).limit)

  pub few_aircraft : length x.aircraft ≤ most_aircraft
  few_aircraft = few_rows most_aircraft x.aircraft (λ k d below. (each_aircraft k d below).limit)

  pub few_airports : length x.airports ≤ most_airports
  few_airports = few_rows most_airports x.airports (λ k d below. (each_airport k d below).limit)

  pub few_itineraries : length x.itineraries ≤ most_itineraries
  few_itineraries = few_rows most_itineraries x.itineraries (λ k d below. (each_itinerary k d below).limit)

  pub few_wanted : sum_by (λ row. length row.groups) x.position ≤ most_groups
  few_wanted = few_groups x.position (λ k d below. (each_position k d below).limit)

  pub few_tariff : length x.tariff.rows ≤ most_tariff_rows
  few_tariff = few_rows most_tariff_rows x.tariff.rows (λ k d below. (each_tariff k d below).limit)

-- The legs of the day are in their ranges.
use Rattle.std.proofs.Common.{◌≡◌, ◌≢◌, ◌&&◌, ℕ, ◌<◌, ◌≤◌, List, length, map, get_or, bytes_eq, Option, Some, None, refl, sym, ap, subst, ◌∙◌, arith, All, AllPairs}
use Rattle.std.specs.Prelude.{option_map}
use Rattle.std.specs.Option.{option_map_or, ForSome}
use Rattle.std.proofs.lemmas.List.{length-map}
use Rattle.std.proofs.lemmas.List.Elements.{All-map}
use Rattle.desk_units.specs.declared.numbers.Leg.{Leg}
use Rattle.desk_data.specs.declared.info.LegInfo.{LegInfo}
use Rattle.desk_data.specs.Situation.{no_leg}
use Rattle.desk_data.specs.Valid.{IsLeg, IsDistance as IsMinutes}
use Rattle.file_rows.specs.declared.network.AirportRow.{AirportRow}
use Rattle.file_rows.specs.declared.network.DistRow.{DistRow}
use Rattle.file_rows.specs.Facts.{IsDistance}
use Rattle.file_rows.specs.declared.legs.FlightRow.{FlightRow}
use Rattle.file_rows.specs.declared.legs.RotationRow.{RotationRow}
use Rattle.file_rows.specs.Facts.{IsFlight, IsRotation}
use Rattle.build_tables.specs.declared.files.Files.{Files}
use Rattle.build_tables.specs.Names.{flight_named, is_between, distance_between}
use Rattle.build_tables.specs.Departures.{departure_on}
use Rattle.build_tables.specs.Fitting.{IsRotationOf, FitTogether}
use Rattle.desk_build.specs.Legs.{◌>>=◌, is_in_time, is_last_in_time, last_in_time, previous_place, minutes_of, leg_number, leg_by, leg_of}
use Rattle.desk_build.specs.Day.{airport_info, plane_info, minutes_between, distances_from, distances_of}
use Rattle.build_tables.specs.Facts.{AreFileRows}
use Rattle.desk_build.proofs.FoundLemmas.{place_within, known_within, found, found_either}
use Rattle.desk_build.proofs.ValidPlanes.{airport_within, pairs_made}

-- the last in time is one of the rotations
last_within : (flight : FlightRow) (at : ℕ) (rotations : List RotationRow) (k : ℕ) → last_in_time flight at rotations ≡ Some k → k < length rotations
unfolding last_in_time
last_within flight at rotations k e = place_within (λ row. is_in_time flight at row && is_last_in_time flight at rotations row) rotations k e

-- the previous leg of a leg is one of the legs
previous_by : (x : Files) (at : ℕ) (o : Option FlightRow) (k : ℕ) → (o >>= (λ previous. last_in_time previous at x.rotations)) ≡ Some k → k < length x.rotations
previous_by x at None k e = absurd cc
previous_by x at (Some previous) k e = last_within previous at x.rotations k e

previous_named : (x : Files) (at : ℕ) (name : Option (List ℕ)) (k : ℕ) → (name >>= (λ name. flight_named x.flights name >>= (λ previous. last_in_time previous at x.rotations))) ≡ Some k → k < length x.rotations
previous_named x at None k e = absurd cc
previous_named x at (Some name) k e = previous_by x at (flight_named x.flights name) k e

pub previous_within : (x : Files) (flight : FlightRow) (day k : ℕ) → previous_place x flight day ≡ Some k → k < length x.rotations
unfolding previous_place
previous_within x flight day k e = previous_named x (departure_on flight day) flight.prev k e

leg_within : (legs : ℕ) (place : Option ℕ) → ((k : ℕ) → place ≡ Some k → k < legs) → ForSome (option_map leg_number place) (λ prev. prev.0 < legs)
leg_within legs None within prev e = absurd cc
leg_within legs (Some k) within prev e = let same : leg_number k ≡ prev = cc in subst (λ (leg : Leg). leg.0 < legs) same (within k refl)

-- a distance is at most 100,000 minutes, and it is 0 where there is none
minutes_within : (distance : Option DistRow) → ((row : DistRow) → distance ≡ Some row → IsDistance row) → minutes_of distance ≤ 100000
minutes_within None h = omega arith
minutes_within (Some row) h = (h row refl).minutes

minutes_in_range : (distance : Option DistRow) → ((row : DistRow) → distance ≡ Some row → IsDistance row) → IsMinutes (option_map (λ row. row.minutes) distance)
minutes_in_range None h minutes e = absurd cc
minutes_in_range (Some row) h minutes e = let same : row.minutes ≡ minutes = cc in subst (λ (m : ℕ). m ≤ 100000) same (h row refl).minutes

module _ (x : Files) (rows : AreFileRows x) where
  -- the distance between two airports is that of a row
  distance_in_range : (origin dest : AirportRow) → IsMinutes (minutes_between x origin dest)
  distance_in_range origin dest =
      let there = is_between origin.airport dest.airport in
      let back = is_between dest.airport origin.airport in
      minutes_in_range (distance_between x.dist origin.airport dest.airport) (λ row named. found_either IsDistance there back x.dist row rows.dist named)

  distances_in_range : (origin : AirportRow) → All IsMinutes (distances_from x origin)
  distances_in_range origin = All-map IsMinutes (minutes_between x origin) x.airports (λ k d below. distance_in_range origin (get_or x.airports k d))

  pub are_distances : All (λ row. All IsMinutes row) (distances_of x)
  are_distances = All-map (λ row. All IsMinutes row) (distances_from x) x.airports (λ k d below. distances_in_range (get_or x.airports k d))

  flight_within : (row : RotationRow) (f : FlightRow) → flight_named x.flights row.flight ≡ Some f → IsFlight f
  flight_within row f named = found IsFlight (λ f. bytes_eq row.flight f.flight) x.flights f rows.flights named

  is_leg_by : (row : RotationRow) (f : FlightRow) → IsRotation row → IsRotationOf x row f → IsLeg (length (map airport_info x.airports)) (length (map (plane_info x) x.aircraft)) (length x.rotations) (leg_by x row f)
  unfolding leg_by
  is_leg_by row f h joined =
      let flight = flight_within row f joined.named in
      record {
        flight = h.flight;
        day = h.day;
        origin = airport_within x.airports f.origin joined.origin;
        dest = airport_within x.airports f.dest joined.dest;
        sched = joined.soon;
        some = omega (arith, flight.later);
        block = omega (arith, flight.soon);
        distance = minutes_within (distance_between x.dist f.origin f.dest) (λ row named. found_either IsDistance (is_between f.origin f.dest) (is_between f.dest f.origin) x.dist row rows.dist named);
        plane = rw (length-map x.aircraft (plane_info x)) (known_within _ x.aircraft joined.aircraft);
        prev = leg_within (length x.rotations) (previous_place x f row.day) (λ k e. previous_within x f row.day k e);
      }

-- the leg of a rotation is that of its flight
pub leg_is : (x : Files) (row : RotationRow) (f : FlightRow) → flight_named x.flights row.flight ≡ Some f → leg_of x row ≡ leg_by x row f
unfolding leg_of
leg_is x row f named = ap (λ o. option_map_or (leg_by x row) o no_leg) named

-- and keeps its name and its day
leg_flight : (x : Files) (row : RotationRow) (f : FlightRow) → flight_named x.flights row.flight ≡ Some f → (leg_of x row).flight ≡ row.flight
unfolding leg_by
leg_flight x row f named = ap (λ (leg : LegInfo). leg.flight) (leg_is x row f named)

leg_day : (x : Files) (row : RotationRow) (f : FlightRow) → flight_named x.flights row.flight ≡ Some f → (leg_of x row).day ≡ row.day
unfolding leg_by
leg_day x row f named = ap (λ (leg : LegInfo). leg.day) (leg_is x row f named)

module _ (x : Files) (rows : AreFileRows x) (fit : FitTogether x) where
  pub are_legs : All (IsLeg (length (map airport_info x.airports)) (length (map (plane_info x) x.aircraft)) (length x.rotations)) (map (leg_of x) x.rotations)
  are_legs =
      let Fits : LegInfo → Type 0 = IsLeg (length (map airport_info x.airports)) (length (map (plane_info x) x.aircraft)) (length x.rotations) in
      All-map Fits (leg_of x) x.rotations (λ k d below.
      let row = get_or x.rotations k d in
      let joined = fit.rotations k d below in
      subst Fits (sym (leg_is x row joined.0 joined.1.named)) (is_leg_by x rows row joined.0 (rows.rotations k d below) joined.1))

  pub legs_apart : AllPairs (λ a b. a.flight ≡ b.flight → a.day ≢ b.day) (map (leg_of x) x.rotations)
  legs_apart = pairs_made (λ (a b : LegInfo). a.flight ≡ b.flight → a.day ≢ b.day) (leg_of x) x.rotations (λ i j d before within flight day.
      let a = get_or x.rotations i d in
      let b = get_or x.rotations j d in
      let first = fit.rotations i d (omega arith) in
      let second = fit.rotations j d within in
      fit.apart.rotations i j d before within
      (sym (leg_flight x a first.0 first.1.named) ∙ flight ∙ leg_flight x b second.0 second.1.named)
      (sym (leg_day x a first.0 first.1.named) ∙ day ∙ leg_day x b second.0 second.1.named))

-- Rows of which none is refused fit together.
use Rattle.std.proofs.Common.{◌≡◌, ◌≢◌, ℕ, Bool, true, false, eqb, ltb, List, length, take, get_or, bytes_eq, Option, Some, None, refl, sym, ap, ◌∙◌}
use Rattle.std.specs.Prelude.{is_some, IsSome, IfNone}
use Rattle.std.specs.Option.{option_map_or, ForSome}
use Rattle.std.proofs.lemmas.Bool.{and_parts, and_from, ltb-false, eq-eqb, both_ways, false≢true}
use Rattle.std.proofs.lemmas.List.Sums.{AllPass-from_list_all}
use Rattle.std.proofs.lemmas.Slice.Eq.{bytes_eq-Decides}
use Rattle.file_rows.specs.declared.network.AirportRow.{AirportRow}
use Rattle.file_rows.specs.declared.legs.FlightRow.{FlightRow}
use Rattle.file_rows.specs.declared.legs.RotationRow.{RotationRow}
use Rattle.file_rows.specs.declared.fleet.MaintRow.{MaintRow}
use Rattle.file_rows.specs.declared.fleet.AircraftRow.{AircraftRow}
use Rattle.file_rows.specs.declared.passengers.LegRow.{LegRow}
use Rattle.file_rows.specs.declared.passengers.ItineraryRow.{ItineraryRow}
use Rattle.desk_units.specs.declared.tariff.TariffRow.{TariffRow}
use Rattle.tariff_prices.specs.Rows.{same_key}
use Rattle.build_tables.specs.declared.files.Files.{Files}
use Rattle.build_tables.specs.Departures.{departure_on}
use Rattle.build_tables.specs.Fitting.{AreFew, AreApart, IsRotationOf, IsOnRotations, FitTogether}
use Rattle.build_tables.specs.Keys.{type_number}
use Rattle.file_rows.specs.Limits.{most_passengers, most_legs, latest_departure}
use Rattle.build_tables.specs.Names.{flight_named, rotation_place, airport_place, aircraft_place}
use Rattle.build_tables.specs.Batches.{number_of_last}
use Rattle.build_refusals.specs.Rotations.{departs_late, has_airports, is_known, is_same_leg}
use Rattle.build_refusals.specs.Aircraft.{has_known_maintenance}
use Rattle.build_refusals.specs.Itineraries.{is_same_reservation}
use Rattle.build_refusals.specs.Refusals.{Refusal, refusal_of}
use Rattle.build_refusals.proofs.NoneLemmas.{none_alike}
use Rattle.build_refusals.proofs.OrderPasses.{in_turn, new_batch}
use Rattle.build_refusals.proofs.PassLemmas.{ItineraryPasses, each_rotation, each_aircraft, each_airport, each_itinerary, each_position, each_tariff, each_alt_flight, each_alt_aircraft, each_alt_airport, each_fed, few_rotations, few_aircraft, few_airports, few_itineraries, few_wanted, few_tariff, few_batches}

-- names that are not tested alike differ
names_differ : (a b : List ℕ) → bytes_eq b a ≡ false → a ≢ b
names_differ a b e same = both_ways (bytes_eq b a) e ((bytes_eq-Decides b a).1 (sym same))

legs_differ : (a b : RotationRow) → is_same_leg b a ≡ false → a.flight ≡ b.flight → a.day ≢ b.day
legs_differ a b e flight day = both_ways (is_same_leg b a) e (and_from (bytes_eq b.flight a.flight) (eqb b.day a.day) ((bytes_eq-Decides b.flight a.flight).1 (sym flight)) (eq-eqb b.day a.day (sym day)))

reservations_differ : (a b : ItineraryRow) → is_same_reservation b a ≡ false → a.name ≡ b.name → a.inbound ≢ b.inbound
reservations_differ a b e name inbound = both_ways (is_same_reservation b a) e (and_from (bytes_eq b.name a.name) (eqb (type_number b.inbound) (type_number a.inbound)) ((bytes_eq-Decides b.name a.name).1 (sym name)) (eq-eqb (type_number b.inbound) (type_number a.inbound) (ap type_number (sym inbound))))

-- what a test says of the value that is there
value_passes : {A : Type 0} (test : A → Bool) (o : Option A) → option_map_or test o false ≡ true → (v : A) × (o ≡ Some v) × (test v ≡ true)
value_passes test None e = absurd (false≢true e)
value_passes test (Some v) e = (v, refl, e)

value_fails : {A : Type 0} (test : A → Bool) (o : Option A) (v : A) → option_map_or test o false ≡ false → o ≡ Some v → test v ≡ false
value_fails test None v e is = absurd cc
value_fails test (Some w) v e is = let same : w ≡ v = cc in ap test (sym same) ∙ e

-- the flight of a rotation that passes
rotation_fits : (x : Files) (row : RotationRow) → departs_late x.flights row ≡ false → is_known x row ≡ true → (flight : FlightRow) × IsRotationOf x row flight
rotation_fits x row soon known =
    let both = and_parts (option_map_or (has_airports x.airports) (flight_named x.flights row.flight) false) (is_some (aircraft_place x.aircraft row.aircraft)) known in
    let flight = value_passes (has_airports x.airports) (flight_named x.flights row.flight) both.0 in
    let f = flight.0 in
    let ends = and_parts (is_some (airport_place x.airports f.origin)) (is_some (airport_place x.airports f.dest)) flight.2 in (
      f,
      record {
        named = flight.1;
        origin = ends.0;
        dest = ends.1;
        aircraft = both.1;
        soon = ltb-false latest_departure (departure_on f row.day) (value_fails (λ (f : FlightRow). ltb latest_departure (departure_on f row.day)) (flight_named x.flights row.flight) f soon flight.1);
      },
    )

-- the airport of a maintenance, where there is one
maintenance_fits : (airports : List AirportRow) (maint : Option MaintRow) → has_known_maintenance airports maint ≡ true → ForSome maint (λ m. IsSome (airport_place airports m.airport))
maintenance_fits airports None known m is = absurd cc
maintenance_fits airports (Some maint) known m is = let same : maint ≡ m = cc in ap (λ (m : MaintRow). is_some (airport_place airports m.airport)) (sym same) ∙ known

-- a reservation that passes
itinerary_fits : (x : Files) (n : ℕ) (row : ItineraryRow) → ItineraryPasses x n row → IsOnRotations x.rotations row
itinerary_fits x n row passes = record {
  count = ltb-false most_passengers row.count passes.count;
  short = ltb-false most_legs (length row.legs) passes.short;
  legs = AllPass-from_list_all (λ (leg : LegRow). is_some (rotation_place x.rotations leg.flight leg.day)) row.legs passes.known;
}

module _ (x : Files) (e : refusal_of x ≡ None) where
  few : AreFew x
  few = record {
    rotations = few_rotations x e;
    aircraft = few_aircraft x e;
    airports = few_airports x e;
    itineraries = few_itineraries x e;
    groups = few_wanted x e;
    tariff = few_tariff x e;
    batches = few_batches x e;
  }

  apart : AreApart x
  apart = record {
    rotations = λ i j d before within. legs_differ (get_or x.rotations i d) (get_or x.rotations j d) (none_alike is_same_leg x.rotations (λ k d below. (each_rotation x e k d below).new) i j d before within);
    aircraft = λ i j d before within. names_differ (get_or x.aircraft i d).name (get_or x.aircraft j d).name (none_alike (λ (a b : AircraftRow). bytes_eq a.name b.name) x.aircraft (λ k d below. (each_aircraft x e k d below).new) i j d before within);
    airports = λ i j d before within. names_differ (get_or x.airports i d).airport (get_or x.airports j d).airport (none_alike (λ (a b : AirportRow). bytes_eq a.airport b.airport) x.airports (λ k d below. (each_airport x e k d below).new) i j d before within);
    itineraries = λ i j d before within. reservations_differ (get_or x.itineraries i d) (get_or x.itineraries j d) (none_alike is_same_reservation x.itineraries (λ k d below. (each_itinerary x e k d below).new) i j d before within);
    tariff = none_alike (λ (a b : TariffRow). same_key b a) x.tariff.rows (λ k d below. (each_tariff x e k d below).new);
  }

  pub fit_together : FitTogether x
  fit_together = record {
    few = few;
    apart = apart;
    rotations = λ k d below. let passes = each_rotation x e k d below in rotation_fits x (get_or x.rotations k d) passes.soon passes.known;
    aircraft = λ k d below. let passes = each_aircraft x e k d below in record { origin = passes.origin; maint = maintenance_fits x.airports (get_or x.aircraft k d).maint passes.maintenance };
    itineraries = λ k d below. itinerary_fits x k (get_or x.itineraries k d) (each_itinerary x e k d below);
    position = λ k d below. (each_position x e k d below).known;
    alt_flights = each_alt_flight x e;
    alt_aircraft = each_alt_aircraft x e;
    alt_airports = each_alt_airport x e;
    feed = λ k d below. (each_fed x e k d below).known;
    turns = λ k d below. let turn = in_turn (number_of_last (take k x.feed)) (get_or x.feed k d).0 (each_fed x e k d below).turn in record { least = turn.0; most = turn.1 };
    moments = λ k d below at is.
        let passes = each_fed x e k d below in
        let told = passes.told at is in
        record { first = new_batch (number_of_last (take k x.feed)) (get_or x.feed k d).0 passes.turn told.new; least = told.least; most = told.most };
  }

-- where no refusal is answered
pub fit_unless_refused : (x : Files) (refused : Option Refusal) → refused ≡ refusal_of x → IfNone refused (FitTogether x)
fit_unless_refused x None none = fit_together x (sym none)
fit_unless_refused x (Some refusal) some = tt

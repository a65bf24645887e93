use Rattle.std.proofs.Common.{List, refl, subst}
use Rattle.std.specs.Prelude.{All}
use Rattle.std.specs.declared.alloc.Global.{Global}
use Rattle.std.specs.declared.vec.Vec.{Vec}
use Rattle.desk_folder.specs.declared.files.File.{File}
use Rattle.desk_folder.specs.declared.files.File.TheVariants as file
use Rattle.desk_text.specs.Rows.{text_rows}
use Rattle.desk_units.specs.declared.tariff.Tariff.{Tariff}
use Rattle.desk_units.specs.declared.tariff.TariffRow.{TariffRow}
use Rattle.file_rows.specs.Facts.{IsPosition}
use Rattle.file_rows.specs.Limits.{most_bytes}
use Rattle.file_rows.specs.declared.network.Window.{Window}
use Rattle.file_readers.specs.Config.{config_of}
use Rattle.file_readers.specs.Airports.{airport_row}
use Rattle.file_readers.specs.Dist.{dist_row}
use Rattle.file_readers.specs.Itineraries.{itinerary_row}
use Rattle.file_readers.specs.Tariff.{tariff_rows}
use Rattle.file_readers.specs.Orders as orders
use Rattle.file_readers.specs.Feed.{feed_rows}
use Rattle.file_readers.specs.Flights.{flight_row}
use Rattle.file_readers.specs.Rotations.{rotation_row}
use Rattle.file_readers.specs.Aircraft.{aircraft_row}
use Rattle.file_readers.specs.Position.{position_row}
use Rattle.file_readers.specs.declared.crew_row.CrewRow.{CrewRow}
use Rattle.file_readers.specs.Crews.{crew_row}
use Rattle.file_readers.specs.CrewFacts.{IsCrewRow}
use Rattle.desk_journal.specs.declared.rows.JournalRow.{JournalRow}
use Rattle.desk_journal.specs.Journal.{journal_rows_of}
use Rattle.file_readers.specs.Grammar.{Tries, refusal_in}
use Rattle.desk_tasks.specs.Story.{with_rows}
use Rattle.desk_tasks.specs.Facts.{as_rows}
use Rattle.desk_tasks.proofs.PutRowLaws.{put_gives, rows_give, put_seen, kept_give, rows_hold}
use Rattle.desk_tasks.proofs.rows.InputRows.take.Goals as goal

pub returns-in-Config-clause-exact : goal.returns-in-Config-clause-exact
unfolding with_rows
returns-in-Config-clause-exact c =
    rw c.in-Config.is (put_gives (λ (window : Window). window) (λ window. record (as_rows c.args.self.now) { files = record c.args.self.now.files { config = window } }) c.put.result c.read_config.result c.put.new.place config_of c.as_slice-bytes.result.now c.args.kept.now.items c.as_slice-bytes.ensures.value c.put.ensures c.read_config.ensures.exact)

pub returns-in-Flights-clause-exact : goal.returns-in-Flights-clause-exact
unfolding with_rows
returns-in-Flights-clause-exact c =
    rw c.in-Flights.is (rows_give (λ rows. record (as_rows c.args.self.now) { files = record c.args.self.now.files { flights = rows } }) c.put_rows.result c.read_flights.result c.put_rows.new.place (text_rows most_bytes flight_row) c.as_slice-bytes.result.now c.args.kept.now.items c.as_slice-bytes.ensures.value c.put_rows.ensures c.read_flights.ensures.exact)

pub returns-in-Rotations-clause-exact : goal.returns-in-Rotations-clause-exact
unfolding with_rows
returns-in-Rotations-clause-exact c =
    rw c.in-Rotations.is (rows_give (λ rows. record (as_rows c.args.self.now) { files = record c.args.self.now.files { rotations = rows } }) c.put_rows-in-Rotations.result c.read_rotations.result c.put_rows-in-Rotations.new.place (text_rows most_bytes rotation_row) c.as_slice-bytes.result.now c.args.kept.now.items c.as_slice-bytes.ensures.value c.put_rows-in-Rotations.ensures c.read_rotations.ensures.exact)

pub returns-in-Aircraft-clause-exact : goal.returns-in-Aircraft-clause-exact
unfolding with_rows
returns-in-Aircraft-clause-exact c =
    rw c.in-Aircraft.is (rows_give (λ rows. record (as_rows c.args.self.now) { files = record c.args.self.now.files { aircraft = rows } }) c.put_rows-in-Aircraft.result c.read_aircraft.result c.put_rows-in-Aircraft.new.place (text_rows most_bytes aircraft_row) c.as_slice-bytes.result.now c.args.kept.now.items c.as_slice-bytes.ensures.value c.put_rows-in-Aircraft.ensures c.read_aircraft.ensures.exact)

pub returns-in-Airports-clause-exact : goal.returns-in-Airports-clause-exact
unfolding with_rows
returns-in-Airports-clause-exact c =
    rw c.in-Airports.is (rows_give (λ rows. record (as_rows c.args.self.now) { files = record c.args.self.now.files { airports = rows } }) c.put_rows-in-Airports.result c.read_airports.result c.put_rows-in-Airports.new.place (text_rows most_bytes airport_row) c.as_slice-bytes.result.now c.args.kept.now.items c.as_slice-bytes.ensures.value c.put_rows-in-Airports.ensures c.read_airports.ensures.exact)

pub returns-in-Dist-clause-exact : goal.returns-in-Dist-clause-exact
unfolding with_rows
returns-in-Dist-clause-exact c =
    rw c.in-Dist.is (rows_give (λ rows. record (as_rows c.args.self.now) { files = record c.args.self.now.files { dist = rows } }) c.put_rows-in-Dist.result c.read_dist.result c.put_rows-in-Dist.new.place (text_rows most_bytes dist_row) c.as_slice-bytes.result.now c.args.kept.now.items c.as_slice-bytes.ensures.value c.put_rows-in-Dist.ensures c.read_dist.ensures.exact)

pub returns-in-Itineraries-clause-exact : goal.returns-in-Itineraries-clause-exact
unfolding with_rows
returns-in-Itineraries-clause-exact c =
    rw c.in-Itineraries.is (rows_give (λ rows. record (as_rows c.args.self.now) { files = record c.args.self.now.files { itineraries = rows } }) c.put_rows-in-Itineraries.result c.read_itineraries.result c.put_rows-in-Itineraries.new.place (text_rows most_bytes itinerary_row) c.as_slice-bytes.result.now c.args.kept.now.items c.as_slice-bytes.ensures.value c.put_rows-in-Itineraries.ensures c.read_itineraries.ensures.exact)

pub returns-in-Position-clause-exact : goal.returns-in-Position-clause-exact
unfolding with_rows
returns-in-Position-clause-exact c =
    rw c.in-Position.is (rows_give (λ rows. record (as_rows c.args.self.now) { files = record c.args.self.now.files { position = rows } }) c.put_rows-in-Position.result c.read_position.result c.put_rows-in-Position.new.place (text_rows most_bytes position_row) c.as_slice-bytes.result.now c.args.kept.now.items c.as_slice-bytes.ensures.value c.put_rows-in-Position.ensures c.read_position.ensures.exact)

pub returns-in-AltFlights-clause-exact : goal.returns-in-AltFlights-clause-exact
unfolding with_rows
returns-in-AltFlights-clause-exact c =
    rw c.in-AltFlights.is (rows_give (λ rows. record (as_rows c.args.self.now) { files = record c.args.self.now.files { alt_flights = rows } }) c.put_rows-in-AltFlights.result c.read_alt_flights.result c.put_rows-in-AltFlights.new.place (text_rows most_bytes orders.flight_row) c.as_slice-bytes.result.now c.args.kept.now.items c.as_slice-bytes.ensures.value c.put_rows-in-AltFlights.ensures c.read_alt_flights.ensures.exact)

pub returns-in-AltAircraft-clause-exact : goal.returns-in-AltAircraft-clause-exact
unfolding with_rows
returns-in-AltAircraft-clause-exact c =
    rw c.in-AltAircraft.is (rows_give (λ rows. record (as_rows c.args.self.now) { files = record c.args.self.now.files { alt_aircraft = rows } }) c.put_rows-in-AltAircraft.result c.read_alt_aircraft.result c.put_rows-in-AltAircraft.new.place (text_rows most_bytes orders.aircraft_row) c.as_slice-bytes.result.now c.args.kept.now.items c.as_slice-bytes.ensures.value c.put_rows-in-AltAircraft.ensures c.read_alt_aircraft.ensures.exact)

pub returns-in-AltAirports-clause-exact : goal.returns-in-AltAirports-clause-exact
unfolding with_rows
returns-in-AltAirports-clause-exact c =
    rw c.in-AltAirports.is (rows_give (λ rows. record (as_rows c.args.self.now) { files = record c.args.self.now.files { alt_airports = rows } }) c.put_rows-in-AltAirports.result c.read_alt_airports.result c.put_rows-in-AltAirports.new.place (text_rows most_bytes orders.airport_row) c.as_slice-bytes.result.now c.args.kept.now.items c.as_slice-bytes.ensures.value c.put_rows-in-AltAirports.ensures c.read_alt_airports.ensures.exact)

pub returns-in-Feed-clause-exact : goal.returns-in-Feed-clause-exact
unfolding with_rows
returns-in-Feed-clause-exact c =
    rw c.in-Feed.is (rows_give (λ rows. record (as_rows c.args.self.now) { files = record c.args.self.now.files { feed = rows } }) c.put_rows-in-Feed.result c.read_feed.result c.put_rows-in-Feed.new.place (feed_rows) c.as_slice-bytes.result.now c.args.kept.now.items c.as_slice-bytes.ensures.value c.put_rows-in-Feed.ensures c.read_feed.ensures.exact)

pub returns-in-Position-clause-facts : goal.returns-in-Position-clause-facts
returns-in-Position-clause-facts c =
    let old = c.requires.facts.files in
    rows_hold (All IsPosition) _ c.put_rows-in-Position.result c.read_position.result c.put_rows-in-Position.new.place c.put_rows-in-Position.ensures c.read_position.ensures.facts (λ all. record {
      files = record {
        window = old.window;
        flights = old.flights;
        rotations = old.rotations;
        aircraft = old.aircraft;
        airports = old.airports;
        dist = old.dist;
        itineraries = old.itineraries;
        position = all;
        alt_flights = old.alt_flights;
        alt_aircraft = old.alt_aircraft;
        alt_airports = old.alt_airports;
        tariff = old.tariff;
        feed = old.feed;
      };
      crews = c.requires.facts.crews;
      journal = c.requires.facts.journal;
    })

pub returns-in-Tariff-clause-exact : goal.returns-in-Tariff-clause-exact
unfolding with_rows
returns-in-Tariff-clause-exact c =
    let seen = put_seen (λ (tariff : Tariff). tariff.rows) c.put-in-Tariff.result c.read_tariff.result c.put-in-Tariff.new.place c.put-in-Tariff.ensures in
    rw c.in-Tariff.is (put_gives (λ (tariff : Tariff). tariff.rows) (λ (rows : List TariffRow). record (as_rows c.args.self.now) { files = record c.args.self.now.files { tariff = record { rows = rows } } }) c.put-in-Tariff.result c.read_tariff.result c.put-in-Tariff.new.place.rows tariff_rows c.as_slice-bytes.result.now c.args.kept.now.items c.as_slice-bytes.ensures.value seen c.read_tariff.ensures.exact)

pub returns-in-Journal-clause-exact : goal.returns-in-Journal-clause-exact
unfolding with_rows
returns-in-Journal-clause-exact c =
    let seen = put_seen (λ (rows : Vec JournalRow Global). rows.items) c.put-in-Journal.result c.read_journal.result c.put-in-Journal.new.place c.put-in-Journal.ensures in
    rw c.in-Journal.is (rows_give (λ rows. record (as_rows c.args.self.now) { journal = rows }) c.put-in-Journal.result c.read_journal.result c.put-in-Journal.new.place.items journal_rows_of c.as_slice-bytes.result.now c.args.kept.now.items c.as_slice-bytes.ensures.value seen c.read_journal.ensures.exact)

pub returns-in-SolRotations-clause-exact : goal.returns-in-SolRotations-clause-exact
unfolding with_rows
returns-in-SolRotations-clause-exact c =
    let bytes = c.as_slice-bytes.result.now in
    let tried = subst (λ (f : File). Tries c.solution_grammar.result (refusal_in f bytes)) c.in-SolRotations.is c.solution_grammar.ensures in
    rw c.in-SolRotations.is (kept_give (λ rows. record (as_rows c.args.self.now) { plan_rotations = rows }) c.keep.result c.solution_grammar.result c.keep.new.place.items (refusal_in file.SolRotations) bytes c.args.kept.now.items c.as_slice-bytes.ensures.value c.keep.ensures.same c.keep.ensures.kept tried)

pub returns-in-SolItineraries-clause-exact : goal.returns-in-SolItineraries-clause-exact
unfolding with_rows
returns-in-SolItineraries-clause-exact c =
    let bytes = c.as_slice-bytes.result.now in
    let tried = subst (λ (f : File). Tries c.solution_grammar-in-SolItineraries.result (refusal_in f bytes)) c.in-SolItineraries.is c.solution_grammar-in-SolItineraries.ensures in
    rw c.in-SolItineraries.is (kept_give (λ rows. record (as_rows c.args.self.now) { plan_itineraries = rows }) c.keep-in-SolItineraries.result c.solution_grammar-in-SolItineraries.result c.keep-in-SolItineraries.new.place.items (refusal_in file.SolItineraries) bytes c.args.kept.now.items c.as_slice-bytes.ensures.value c.keep-in-SolItineraries.ensures.same c.keep-in-SolItineraries.ensures.kept tried)

pub returns-in-Crew-clause-exact : goal.returns-in-Crew-clause-exact
unfolding with_rows
returns-in-Crew-clause-exact c =
    let seen = put_seen (λ (rows : Vec CrewRow Global). rows.items) c.put-in-Crew.result c.read_crew.result c.put-in-Crew.new.place c.put-in-Crew.ensures in
    rw c.in-Crew.is (rows_give (λ rows. record (as_rows c.args.self.now) { crews = rows }) c.put-in-Crew.result c.read_crew.result c.put-in-Crew.new.place.items (text_rows most_bytes crew_row) c.as_slice-bytes.result.now c.args.kept.now.items c.as_slice-bytes.ensures.value seen c.read_crew.ensures.exact)

pub returns-in-Crew-clause-facts : goal.returns-in-Crew-clause-facts
returns-in-Crew-clause-facts c =
    let seen = put_seen (λ (rows : Vec CrewRow Global). rows.items) c.put-in-Crew.result c.read_crew.result c.put-in-Crew.new.place c.put-in-Crew.ensures in
    rows_hold (All IsCrewRow) _ c.put-in-Crew.result c.read_crew.result c.put-in-Crew.new.place.items seen c.read_crew.ensures.facts (λ all. record {
      files = c.requires.facts.files;
      crews = all;
      journal = c.requires.facts.journal;
    })

pub returns-in-SolAdded-clause-exact : goal.returns-in-SolAdded-clause-exact
unfolding with_rows
returns-in-SolAdded-clause-exact c = rw c.in-SolAdded.is refl

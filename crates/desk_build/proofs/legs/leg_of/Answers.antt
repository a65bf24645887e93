use Rattle.desk_build.proofs.FlightLemmas.{is_flight}
use Rattle.desk_build.proofs.legs.leg_of.Goals as goal

pub leg_by-requires-clause-flight : goal.leg_by-requires-clause-flight
leg_by-requires-clause-flight c = is_flight c.args.tables.now.files.now.flights c.args.row.now.flight c.flight.result c.unwrap-flight.result c.requires.flights c.flight.ensures c.unwrap-flight.ensures

use Rattle.desk_data.proofs.DepartureLaws.{earliest-le, latest-le}
use Rattle.desk_data.proofs.laws.departures_are_in_time.Goals as goal

pub returns-clause-earliest : goal.returns-clause-earliest
returns-clause-earliest c = earliest-le

pub returns-clause-latest : goal.returns-clause-latest
returns-clause-latest c = latest-le

use Rattle.near_dear.proofs.StandLaws.{exchange-stand, exchange-other-stand}
use Rattle.near_dear.proofs.exchange_laws.exchanged_aircraft_end_where_their_legs_lead.Goals as goal

pub returns-clause-first : goal.returns-clause-first
returns-clause-first c = exchange-stand

pub returns-clause-second : goal.returns-clause-second
returns-clause-second c = exchange-other-stand

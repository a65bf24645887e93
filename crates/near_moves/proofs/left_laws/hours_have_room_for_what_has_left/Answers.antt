use Rattle.near_moves.proofs.CountLaws.{departing, arriving, departures-fit, arrivals-fit}
use Rattle.near_moves.proofs.LineLaws.{obeys_line}
use Rattle.near_moves.proofs.left_laws.hours_have_room_for_what_has_left.Goals as goal

pub returns-clause-departing : goal.returns-clause-departing
returns-clause-departing c = departing

pub returns-clause-arriving : goal.returns-clause-arriving
returns-clause-arriving c = arriving

pub returns-clause-departures_fit : goal.returns-clause-departures_fit
returns-clause-departures_fit c = departures-fit

pub returns-clause-arrivals_fit : goal.returns-clause-arrivals_fit
returns-clause-arrivals_fit c = arrivals-fit

pub returns-clause-line : goal.returns-clause-line
returns-clause-line c = obeys_line c.later_orders_decide.ensures.batch

use Rattle.near_moves.proofs.FreshLaws.{latest-fresh, stems-fresh, routes-fresh, refill-fresh}
use Rattle.near_moves.proofs.left_laws.where_nothing_has_left_moves_are_as_ordered.Goals as goal

pub returns-clause-latest : goal.returns-clause-latest
returns-clause-latest c = latest-fresh c.days_of_which_nothing_has_left_are_as_ordered.ensures

pub returns-clause-stems : goal.returns-clause-stems
returns-clause-stems c = stems-fresh

pub returns-clause-routes : goal.returns-clause-routes
returns-clause-routes c = routes-fresh

pub returns-clause-refill : goal.returns-clause-refill
returns-clause-refill c = refill-fresh c.days_of_which_nothing_has_left_are_as_ordered.ensures

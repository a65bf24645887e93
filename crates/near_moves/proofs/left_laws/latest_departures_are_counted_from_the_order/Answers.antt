use Rattle.desk_data.specs.Progress.{with_batch}
use Rattle.near_moves.proofs.LineLaws.{latest-order, latest-same}
use Rattle.near_moves.proofs.left_laws.latest_departures_are_counted_from_the_order.Goals as goal

pub returns-clause-order : goal.returns-clause-order
returns-clause-order c = latest-order

pub returns-clause-batch : goal.returns-clause-batch
returns-clause-batch c = λ I P B x others. latest-same I (with_batch I P B) x (let adds = c.later_orders_decide.ensures.batch I P B in (adds.leg x others).1)

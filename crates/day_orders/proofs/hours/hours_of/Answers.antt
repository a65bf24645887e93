use Rattle.day_orders.proofs.TouchLemmas.{touches_hours, touches_none}
use Rattle.day_orders.proofs.hours.hours_of.Goals as goal

pub returns-then-from-to-clause-some : goal.returns-then-from-to-clause-some
returns-then-from-to-clause-some c = λ h. touches_hours c.args.from.0 c.args.to.0 h c.if-from-to.true

pub returns-else-from-to-clause-none : goal.returns-else-from-to-clause-none
returns-else-from-to-clause-none c = λ h. touches_none c.args.from.0 c.args.to.0 h c.if-from-to.false

use Rattle.crew_duty.proofs.BrokenLaws.{items_exact}
use Rattle.crew_duty.proofs.broken.set_item.Goals as goal

pub returns-then-is_in-clause-set : goal.returns-then-is_in-clause-set
returns-then-is_in-clause-set c = rw c.if-is_in.true (c.put.ensures.set items_exact)

pub returns-else-is_in-clause-set : goal.returns-else-is_in-clause-set
returns-else-is_in-clause-set c = rw c.if-is_in.false (c.take.ensures.set items_exact)

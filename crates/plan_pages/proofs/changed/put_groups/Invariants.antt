use Rattle.plan_pages.proofs.PageLaws.{ArePut}
use Rattle.plan_pages.proofs.changed.put_groups.Given as goal

-- the reservations so far have the groups of the plan, and those after them are left
abbrev pub invariant-loop-r : goal.invariant-loop-r
invariant-loop-r l = ArePut l.fn.pages l.fn.plan l.pages l.left l.r

use Rattle.plan_pages.proofs.PageLaws.{AreTaken}
use Rattle.plan_pages.proofs.pages.shared_groups.Given as goal

-- the groups of the reservations so far are taken, and those after them are left
abbrev pub invariant-loop-r : goal.invariant-loop-r
invariant-loop-r l = AreTaken l.fn.plan.groups l.left.groups l.shared.items l.r

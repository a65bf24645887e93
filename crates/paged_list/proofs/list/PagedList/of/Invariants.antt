use Rattle.std.proofs.Common.{length}
use Rattle.paged_list.proofs.PageLaws.{AreBegun}
use Rattle.paged_list.proofs.list.PagedList.of.Given as goal

-- the pages so far, and the items that are left
abbrev pub invariant-loop-left : goal.invariant-loop-left
invariant-loop-left g l = AreBegun l.items l.pages.items l.left

abbrev pub decreases-loop-left : goal.decreases-loop-left
decreases-loop-left g l = length l.left

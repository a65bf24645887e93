use Rattle.std.proofs.Common.{◌≡◌, take}
use Rattle.paged_list.specs.Pages.{joined}
use Rattle.paged_list.proofs.list.PagedList.to_vec.Given as goal

-- the items of the pages so far
abbrev pub invariant-loop-page : goal.invariant-loop-page
invariant-loop-page g l = l.items.items ≡ joined (take l.page-index l.page-items)

use Rattle.std.proofs.Common.{◌≡◌, take}
use Rattle.paged_list.proofs.shared.SharedItemsCopyItems.copies.Given as goal

abbrev pub invariant-loop-one : goal.invariant-loop-one
invariant-loop-one g l = l.copies.items ≡ take l.one-index l.items

use Rattle.std.proofs.Common.{◌≡◌, take, map}
use Rattle.plan_pages.proofs.pages.copies_of_all_groups.Given as goal

abbrev pub invariant-loop-groups : goal.invariant-loop-groups
invariant-loop-groups l = map (λ copy. copy.items) l.copies.items ≡ take l.groups-index l.shared

use Rattle.std.proofs.Common.{◌≡◌, take}
use Rattle.plan_pages.proofs.pages.copied_groups.Given as goal

abbrev pub invariant-loop-group : goal.invariant-loop-group
invariant-loop-group l = l.copy.items ≡ take l.group-index l.groups

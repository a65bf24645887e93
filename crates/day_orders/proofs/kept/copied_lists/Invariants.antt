use Rattle.std.proofs.Common.{◌≡◌, take, map}
use Rattle.day_orders.proofs.kept.copied_lists.Given as goal

abbrev pub invariant-loop-list : goal.invariant-loop-list
invariant-loop-list g l = map (λ l. l.items) l.copy.items ≡ map (λ l. l.items) (take l.list-index l.lists)

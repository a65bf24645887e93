use Rattle.std.proofs.Common.{◌≡◌, map, take}
use Rattle.near_legs.specs.declared.choice.Choice.TheVariants.{Exchange}
use Rattle.near_moves.specs.MoveParts.{minute}
use Rattle.near_legs.proofs.choose.exchanges.Given as goal

abbrev pub invariant-loop-at : goal.invariant-loop-at
invariant-loop-at l = l.all.items ≡ map (λ at. Exchange l.first l.second (minute at)) (take l.at-index l.at-items)

use Rattle.std.proofs.Common.{◌≡◌, take}
use Rattle.std.specs.Prelude.{map}
use Rattle.desk_rules.specs.Cost.{at_hand}
use Rattle.near_priced.proofs.hands.all_hands.Given as goal

abbrev pub invariant-loop-position : goal.invariant-loop-position
invariant-loop-position l = l.hands.items ≡ map (at_hand l.inst l.plan) (take l.position-index l.inst.parts.positions)

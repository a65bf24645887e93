use Rattle.std.proofs.Common.{◌≡◌, nat_lt, map, take}
use Rattle.std.specs.Prelude.{filter}
use Rattle.near_legs.specs.declared.unit.LegUnit.TheVariants.{Swapped}
use Rattle.near_legs.proofs.own.later_pairs.Given as goal

abbrev pub invariant-loop-other : goal.invariant-loop-other
invariant-loop-other l = l.units.items ≡ map (λ q. Swapped l.plane q) (filter (λ q. nat_lt l.plane.0 q.0) (take l.other-index l.others))

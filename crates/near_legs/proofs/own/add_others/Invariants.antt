use Rattle.std.proofs.Common.{◌≡◌, ◌++◌, not, nat_eq, map, take}
use Rattle.std.specs.Prelude.{filter}
use Rattle.near_legs.specs.declared.unit.LegUnit.TheVariants.{Handed}
use Rattle.near_legs.proofs.own.add_others.Given as goal

abbrev pub invariant-loop-other : goal.invariant-loop-other
invariant-loop-other l = l.units.items ≡ l.fn.units.items ++ map (λ q. Handed l.leg l.count q) (filter (λ q. not (nat_eq q.0 l.plane.0)) (take l.other-index l.planes))

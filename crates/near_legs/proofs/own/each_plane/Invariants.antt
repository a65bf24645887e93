use Rattle.std.proofs.Common.{◌≡◌, map, take}
use Rattle.near_legs.specs.declared.unit.LegUnit.TheVariants.{Restored}
use Rattle.near_legs.proofs.own.each_plane.Given as goal

abbrev pub invariant-loop-plane : goal.invariant-loop-plane
invariant-loop-plane l = l.units.items ≡ map (λ q. Restored l.leg q) (take l.plane-index l.planes)

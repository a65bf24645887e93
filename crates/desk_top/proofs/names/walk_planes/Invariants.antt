use Rattle.std.proofs.Common.{length, take}
use Rattle.std.specs.Prelude.{All}
use Rattle.desk_units.specs.Padded.{IsNameLength}
use Rattle.desk_top.proofs.names.walk_planes.Given as goal

abbrev pub invariant-loop-plane : goal.invariant-loop-plane
invariant-loop-plane l = All (λ x. IsNameLength (length x.name)) (take l.plane-index l.planes)

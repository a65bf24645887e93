use Rattle.std.proofs.Common.{length, take}
use Rattle.std.specs.Prelude.{All}
use Rattle.desk_units.specs.Padded.{IsNameLength}
use Rattle.desk_top.proofs.names.walk_legs.Given as goal

abbrev pub invariant-loop-leg : goal.invariant-loop-leg
invariant-loop-leg l = All (λ x. IsNameLength (length x.flight)) (take l.leg-index l.legs)

use Rattle.std.proofs.Common.{◌≡◌, take}
use Rattle.std.specs.Prelude.{map}
use Rattle.desk_eval.proofs.boards.legs_of_rotation.Given as goal

abbrev pub invariant-loop-rotation_leg : goal.invariant-loop-rotation_leg
invariant-loop-rotation_leg l = l.legs.items ≡ map (λ rotation_leg. rotation_leg.leg) (take l.rotation_leg-index l.rotation_legs)

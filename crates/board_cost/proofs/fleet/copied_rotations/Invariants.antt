use Rattle.std.proofs.Common.{◌≡◌, take}
use Rattle.std.specs.Prelude.{map}
use Rattle.board_cost.specs.RotationLegs.{without_edits_and_room, without_room}
use Rattle.board_cost.proofs.fleet.copied_rotations.Given as goal

abbrev pub invariant-loop-rotation : goal.invariant-loop-rotation
invariant-loop-rotation l = map without_room l.copies.items ≡ map without_edits_and_room (take l.rotation-index l.rotations)

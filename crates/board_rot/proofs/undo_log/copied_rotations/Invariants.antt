use Rattle.std.proofs.Common.{◌≡◌, take}
use Rattle.std.specs.Prelude.{map}
use Rattle.board_rot.specs.Kept.{without_edits}
use Rattle.board_rot.proofs.undo_log.copied_rotations.Given as goal

abbrev pub invariant-loop-rotation : goal.invariant-loop-rotation
invariant-loop-rotation l = l.copies.items ≡ map without_edits (take l.rotation-index l.rotations)

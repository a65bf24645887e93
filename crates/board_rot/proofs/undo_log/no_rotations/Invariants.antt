use Rattle.std.proofs.Common.{◌≡◌}
use Rattle.std.specs.Prelude.{replicate}
use Rattle.board_rot.specs.Kept.{no_rotation_legs}
use Rattle.board_rot.proofs.undo_log.no_rotations.Given as goal

abbrev pub invariant-loop : goal.invariant-loop
invariant-loop l = l.rotations.items ≡ replicate l.counter no_rotation_legs

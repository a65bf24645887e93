use Rattle.std.proofs.Common.{◌≡◌, ℕ, ◌<◌, ◌≤◌, length, get_or}
use Rattle.board_rot.specs.Kept.{no_rotation_legs}
use Rattle.board_rot.proofs.undo_log.forget_all.Given as goal

abbrev pub invariant-loop-p : goal.invariant-loop-p
invariant-loop-p l =
    (length l.rotations.items ≡ length l.fn.rotations.items)
    × ((q : ℕ) → q < l.p → get_or l.rotations.items q no_rotation_legs ≡ record (get_or l.fn.rotations.items q no_rotation_legs) { edits = 0 })
    × ((q : ℕ) → l.p ≤ q → get_or l.rotations.items q no_rotation_legs ≡ get_or l.fn.rotations.items q no_rotation_legs)

use Rattle.std.proofs.Common.{◌≡◌, take}
use Rattle.board_rot.specs.Summaries.{LedTo, marked}
use Rattle.board_rot.specs.Kept.{seen}
use Rattle.board_rot.proofs.undo_log.UndoLog.mark_all.Given as goal

abbrev pub invariant-loop-item : goal.invariant-loop-item
invariant-loop-item l =
    LedTo (seen l.fn.self) (seen l.self)
    × ((seen l.self).summary.rotation_legs ≡ (seen l.fn.self).summary.rotation_legs)
    × ((seen l.self).summary.broken ≡ marked (take l.item-index l.marks) (seen l.fn.self).summary.broken)

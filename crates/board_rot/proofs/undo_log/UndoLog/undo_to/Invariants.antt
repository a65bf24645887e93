use Rattle.std.proofs.Common.{◌≡◌, ◌+◌, length}
use Rattle.board_rot.specs.Summaries.{back_to}
use Rattle.board_rot.specs.Kept.{seen}
use Rattle.board_rot.proofs.undo_log.UndoLog.undo_to.Given as goal

abbrev pub invariant-loop : goal.invariant-loop
invariant-loop l = (back_to l.left (seen l.self) ≡ back_to l.left (seen l.fn.self)) × (length l.self.edits + l.counter ≡ length l.fn.self.edits + l.left)

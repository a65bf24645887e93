use Rattle.std.proofs.Common.{sym, subst}
use Rattle.board_kit.specs.Items.{AreThose}
use Rattle.board_seats.specs.Kept.{Lists}
use Rattle.board_seats.proofs.undo_log.UndoLog.first.Goals as goal

pub returns : goal.returns
returns c test all rise are = c.first.ensures test all rise (subst (λ (l : Lists). AreThose test all l.broken) (sym c.self.view_is) are)

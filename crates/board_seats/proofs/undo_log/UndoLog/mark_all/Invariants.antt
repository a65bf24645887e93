use Rattle.std.proofs.Common.{◌≡◌, take}
use Rattle.board_seats.specs.Summaries.{LedTo, marked}
use Rattle.board_seats.specs.Kept.{seen}
use Rattle.board_seats.proofs.undo_log.UndoLog.mark_all.Given as goal

abbrev pub invariant-loop-item : goal.invariant-loop-item
invariant-loop-item l = record {
  led : LedTo (seen l.fn.self) (seen l.self);
  taken : l.self.taken ≡ l.fn.self.taken;
  faults : l.self.faults ≡ l.fn.self.faults;
  users : l.self.users ≡ l.fn.self.users;
  broken : (seen l.self).summary.broken ≡ marked (take l.item-index l.marks) (seen l.fn.self).summary.broken;
}

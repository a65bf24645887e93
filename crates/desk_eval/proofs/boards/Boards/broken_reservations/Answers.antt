use Rattle.std.proofs.Common.{sym, subst}
use Rattle.board_seats.specs.Board.{StandsAt}
use Rattle.desk_eval.proofs.boards.Boards.broken_reservations.Goals as goal

pub returns : goal.returns
returns c I P Ps is = c.broken_reservations.ensures I P (subst (StandsAt I P) (sym c.seats.ensures) is.second.first.stands)

use Rattle.std.proofs.Common.{◌≡◌, ℕ, [], List, reverse, sym, ap, subst}
use Rattle.board_seats.specs.Kept.{Lists}
use Rattle.board_seats.specs.Board.{IsBoardOf}
use Rattle.board_seats.proofs.BoardLaws.{forgotten}
use Rattle.board_seats.proofs.board.SeatBoardBoard.copy.Goals as goal

pub returns : goal.returns
returns c I P Ps is =
    let none : reverse c.new.result.items ≡ [] = ap reverse c.new.ensures.items in
    subst (λ (ns : List ℕ). IsBoardOf I P [] (record { lists = c.in_ok-log.log; savepoints = ns })) (sym none)
    (subst (λ (l : Lists). IsBoardOf I P [] (record { lists = l; savepoints = [] })) (sym c.in_ok-log.ensures)
    (forgotten I P Ps c.self.inside.log (reverse c.self.inside.savepoints.items) (subst (IsBoardOf I P Ps) (sym c.self.view_is) is)))

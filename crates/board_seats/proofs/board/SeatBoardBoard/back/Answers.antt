use Rattle.std.proofs.Common.{◌≡◌, ℕ, [], ◌∷◌, List, reverse, sym, ap, subst, ◌∙◌, arith}
use Rattle.std.proofs.lemmas.List.{reverse-append}
use Rattle.board_seats.specs.Summaries.{back_to}
use Rattle.board_seats.specs.Kept.{seen}
use Rattle.board_seats.specs.Board.{Board, IsBoardOf}
use Rattle.board_seats.proofs.BoardLaws.{board_back}
use Rattle.board_seats.proofs.board.SeatBoardBoard.back.Goals as goal

pub returns-in-Some : goal.returns-in-Some
returns-in-Some c I P Q Qs is =
    let n = c.in-Some.edits in
    let savepoints : reverse c.self.inside.savepoints.items ≡ n ∷ reverse c.pop.new.self.items
    = ap reverse c.in-Some.ensures.items ∙ reverse-append c.pop.new.self.items (n ∷ []) in
    let board = λ (ns : List ℕ). let b : Board = record { lists = c.self.inside.log; savepoints = ns } in b in
    let here = subst (IsBoardOf I P (Q ∷ Qs)) (sym c.self.view_is ∙ ap board savepoints) is in
    let least : c.min-edits.result ≡ n = omega (arith, c.min-edits.ensures, c.edits.ensures, here.savepoints.0) in
    board_back I P Q Qs c.self.inside.log c.undo_to.new.self n (reverse c.pop.new.self.items)
    (c.undo_to.ensures ∙ ap (λ (k : ℕ). back_to k (seen c.self.inside.log)) least) here

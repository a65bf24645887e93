use Rattle.std.proofs.Common.{◌≡◌, ◌∙◌, sym, subst, ap, List, [], ◌∷◌, reverse}
use Rattle.std.proofs.lemmas.List.{reverse-append}
use Rattle.board_kit.specs.Board.{IsBoardOf, Board}
use Rattle.board_kit.specs.declared.slot.SlotChange.{SlotChange}
use Rattle.board_kit.proofs.PastLaws.{back_board}
use Rattle.board_kit.proofs.slot_board.SlotBoardBoard.back.Goals as goal

pub returns-in-Some : goal.returns-in-Some
returns-in-Some c I P Q Qs is =
    let past : reverse c.self.inside.past.items ≡ c.in-Some.change ∷ reverse c.pop.new.self.items
    = ap reverse c.in-Some.ensures.items ∙ reverse-append c.pop.new.self.items (c.in-Some.change ∷ []) in
    let board = λ (changes : List SlotChange). let b : Board = record { loads = c.self.inside.loads; past = changes } in b in
    back_board I P Q Qs c.self.inside.loads c.enter.new.self c.leave.new.self c.in-Some.change (reverse c.pop.new.self.items)
    (record { entered = c.enter.ensures.entered; known = c.enter.ensures.known; left = c.leave.ensures.left; known_too = c.leave.ensures.known })
    (subst (IsBoardOf I P (Q ∷ Qs)) (sym c.self.view_is ∙ ap board past) is)

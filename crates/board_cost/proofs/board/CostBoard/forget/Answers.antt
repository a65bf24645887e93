use Rattle.std.proofs.Common.{List, sym, subst}
use Rattle.board_cost.specs.declared.change.CostChange.{CostChange}
use Rattle.board_cost.specs.Board.{IsBoardOf, IsLogged}
use Rattle.board_cost.proofs.LogLaws.{no_log}
use Rattle.board_cost.proofs.BoardLaws.{forgot_board}
use Rattle.board_cost.proofs.board.CostBoard.forget.Goals as goal

pub invariant_of-self : goal.invariant_of-self
invariant_of-self c =
    subst (λ (past : List CostChange). IsLogged c.forget.new.self.rotations past) (sym c.clear.ensures.items)
    (no_log c.forget.new.self.rotations c.forget.ensures.edits)

pub returns : goal.returns
returns c I P Ps is =
    let s = c.self.inside in
    let board = subst (IsBoardOf I P Ps) (sym c.self.view_is) is in
    forgot_board I P Ps s.total s.fleet c.forget.new.self s.past.items c.clear.new.self.items c.clear.ensures.items (c.forget.ensures.fleet I P board.stands.fleet) board

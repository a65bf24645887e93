use Rattle.std.proofs.Common.{List, sym, subst}
use Rattle.board_cost.specs.declared.change.CostChange.{CostChange}
use Rattle.board_cost.specs.Board.{IsBoardOf, IsLogged}
use Rattle.board_cost.proofs.LogLaws.{no_log}
use Rattle.board_cost.proofs.BoardLaws.{forgot_board}
use Rattle.board_cost.proofs.board.CostBoard.copy.Goals as goal

pub invariant_of-result : goal.invariant_of-result
invariant_of-result c =
    subst (λ (past : List CostChange). IsLogged c.in_ok-fleet.fleet.rotations past) (sym c.new.ensures.items)
    (no_log c.in_ok-fleet.fleet.rotations c.in_ok-fleet.ensures.edits)

pub returns : goal.returns
returns c I P Ps is =
    let s = c.self.inside in
    let board = subst (IsBoardOf I P Ps) (sym c.self.view_is) is in
    forgot_board I P Ps s.total s.fleet c.in_ok-fleet.fleet s.past.items c.new.result.items c.new.ensures.items (c.in_ok-fleet.ensures.fleet I P board.stands.fleet) board

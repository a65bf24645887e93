use Rattle.std.proofs.Common.{sym, subst}
use Rattle.board_cost.specs.Board.{IsBoardOf as IsCostBoardOf}
use Rattle.desk_eval.proofs.boards.Boards.cost.Goals as goal

pub returns : goal.returns
returns c I P Ps is = c.cost.ensures I P Ps (subst (IsCostBoardOf I P Ps) (sym c.costs.ensures) is.second.second)

use Rattle.std.proofs.Common.{sym, subst}
use Rattle.std.specs.Prelude.{reverse}
use Rattle.board_kit.specs.Board.{IsBoardOf}
use Rattle.desk_eval.specs.Past.{plans_before}
use Rattle.desk_eval.proofs.evaluator.Evaluator.slots.Goals as goal

pub returns : goal.returns
returns c =
    let e = c.self.inside in
    let Ps = plans_before e.pages (reverse e.past.items) in
    rw (← c.self.view_is) (Ps, subst (IsBoardOf e.inst e.pages Ps) (sym c.slots.ensures) c.self.invariant.0.boards.first.second)

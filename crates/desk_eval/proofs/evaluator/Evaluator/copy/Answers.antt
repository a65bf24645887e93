use Rattle.std.proofs.Common.{[], sym, subst}
use Rattle.desk_data.specs.Situation.{Situation}
use Rattle.desk_data.specs.PlanRows.{PlanRows}
use Rattle.desk_eval.specs.Boards.{AreBoardsOf}
use Rattle.desk_eval.proofs.evaluator.Evaluator.copy.Goals as goal

pub of_boards-requires-clause-boards : goal.of_boards-requires-clause-boards
of_boards-requires-clause-boards c =
    let e = c.self.inside in
    let all = c.in_ok-boards.boards.all in
    subst (λ (I : Situation). AreBoardsOf I c.in_ok-pages.pages [] all) (sym c.in_ok-inst.ensures)
    (subst (λ (P : PlanRows). AreBoardsOf e.inst P [] all) (sym c.in_ok-pages.ensures) (c.in_ok-boards.ensures e.inst e.pages _ c.self.invariant.0.boards))

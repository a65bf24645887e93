use Rattle.std.proofs.Common.{◌≡◌, sym, ap, subst, ◌∙◌}
use Rattle.desk_data.specs.Situation.{Situation}
use Rattle.desk_data.specs.PlanRows.{PlanRows}
use Rattle.board_kit.specs.Board.{IsBoardOf}
use Rattle.near_draft.specs.Bases.{Based}
use Rattle.near_draft.proofs.base.BaseKnowsHours.arrivals_beside.Goals as goal

pub returns : goal.returns
returns c = λ Q at knows.
    (let b = c.self.inside in
    let day : c.args.inst.now ≡ b.inst.now = knows.0 ∙ ap (λ (B : Based). B.inst) (sym c.self.view_is) in
    let plan : Q ≡ b.plan.now = knows.1 ∙ ap (λ (B : Based). B.rows) (sym c.self.view_is) in
    let board = c.self.invariant.board in
    c.arrivals_beside.ensures Q board.0 at (subst (λ (I : Situation). IsBoardOf I Q board.0 b.slots.now) (sym day) (subst (λ (P : PlanRows). IsBoardOf b.inst.now P board.0 b.slots.now) (sym plan) board.1)))

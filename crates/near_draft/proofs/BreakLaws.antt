-- Moves whose drafts break a rule.
use Rattle.std.proofs.Common.{◌≡◌, false, subst}
use Rattle.plan_moves.specs.declared.moves.Move.{Move}
use Rattle.desk_data.specs.Situation.{Situation}
use Rattle.desk_data.specs.PlanRows.{PlanRows}
use Rattle.desk_model.specs.Steps.{after_steps}
use Rattle.near_moves.specs.Descent.{is_better}
use Rattle.near_moves.specs.RowRules.{BreaksRows}
use Rattle.near_moves.proofs.RowLaws.{first-break}
use Rattle.near_draft.specs.Drafts.{Drafted, IsDraftOf, plan_of}

pub broken-worse : (I : Situation) (P : PlanRows) (m : Move) (D : Drafted) → IsDraftOf I P m D → BreaksRows D.inst (plan_of D) → is_better I P m ≡ false
broken-worse I P m D is breaks =
    let Q = after_steps I P is.first in
    let here : BreaksRows I Q = subst (λ (K : Situation). BreaksRows K Q) is.day (subst (BreaksRows D.inst) is.made breaks) in
    first-break I P m is.first is.others here.item is.steps is.keeps here.of here.broken

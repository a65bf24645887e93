use Rattle.std.proofs.Common.{◌≡◌, ◌∙◌, ap, subst}
use Rattle.desk_data.specs.PlanRows.{PlanRows}
use Rattle.board_rot.specs.Kept.{seen}
use Rattle.board_rot.specs.Meaning.{flown_in, is_broken}
use Rattle.board_rot.specs.Changes.{IsRowToggle}
use Rattle.board_rot.proofs.OutcomeLaws.{on_ok}
use Rattle.board_rot.proofs.EditLaws.{led_same}
use Rattle.board_rot.proofs.change.toggle_row.Goals as goal

pub returns-in-Flown-clause-done : goal.returns-in-Flown-clause-done
returns-in-Flown-clause-done c = on_ok c.toggle_leg.result c.toggle_leg.ensures.done (λ done P Q was valid row rotation_legs.
    done P Q was valid (subst (IsRowToggle P Q c.args.leg.0) c.in-Flown.is row) rotation_legs)

pub returns-in-Cancelled-clause-led : goal.returns-in-Cancelled-clause-led
returns-in-Cancelled-clause-led c = led_same (seen c.args.log.now)

pub returns-in-Cancelled-clause-done : goal.returns-in-Cancelled-clause-done
returns-in-Cancelled-clause-done c P Q was valid row rotation_legs =
    let same : P ≡ Q = subst (IsRowToggle P Q c.args.leg.0) c.in-Cancelled.is row in
    record {
      rotation_legs = rotation_legs ∙ ap flown_in same;
      broken = λ item leg before. before ∙ ap (λ (R : PlanRows). is_broken c.args.inst.now R item) same;
    }

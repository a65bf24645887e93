use Rattle.std.proofs.Common.{◌≡◌, ◌<◌, ◌∙◌, length, ap, subst, arith}
use Rattle.desk_data.specs.declared.row.Row.TheVariants.{Cancelled}
use Rattle.desk_data.specs.PlanRows.{with_row}
use Rattle.board_rot.specs.Summaries.{Edited}
use Rattle.board_rot.specs.Kept.{seen}
use Rattle.board_rot.specs.Changes.{IsRelocated}
use Rattle.board_rot.proofs.OutcomeLaws.{on_ok}
use Rattle.board_rot.proofs.EditLaws.{led_both}
use Rattle.desk_model.proofs.ValidLaws.{with_row-valid}
use Rattle.board_rot.proofs.ChangeLaws.{taken_off, put_on, relocated_both}
use Rattle.board_rot.proofs.change.relocate.Goals as goal

pub returns-then-branch-clause-done : goal.returns-then-branch-clause-done
returns-then-branch-clause-done c = c.in_ok-stays_in_place.ensures.done c.if-branch.true

pub returns-in_err-toggle_row-clause-led : goal.returns-in_err-toggle_row-clause-led
returns-in_err-toggle_row-clause-led c = led_both (seen c.args.log.now) (seen c.stays_in_place.new.log) (seen c.toggle_row.new.log) c.stays_in_place.ensures.led c.toggle_row.ensures.led

pub returns-clause-led : goal.returns-clause-led
returns-clause-led c =
    led_both (seen c.args.log.now) (seen c.toggle_row.new.log) (seen c.toggle_row-2.new.log)
    (led_both (seen c.args.log.now) (seen c.stays_in_place.new.log) (seen c.toggle_row.new.log) c.stays_in_place.ensures.led c.toggle_row.ensures.led) c.toggle_row-2.ensures.led

pub returns-clause-done : goal.returns-clause-done
returns-clause-done c = on_ok c.toggle_row-2.result c.toggle_row-2.ensures.done (λ put P valid had rotation_legs.
    let I = c.args.inst.now in
    let x = c.args.leg.0 in
    let row = c.args.row in
    let off = with_row P x Cancelled in
    let lt : x < length P.rows = omega (arith, c.requires.leg, valid.legs) in
    let same : seen c.stays_in_place.new.log ≡ seen c.args.log.now = c.in_ok-stays_in_place.ensures.stays c.if-branch.false in
    let off_valid = with_row-valid I P x Cancelled tt valid in
    let on_valid = with_row-valid I P x row c.requires.row valid in
    let first = c.in_ok-toggle_row.ensures.done P off valid off_valid (taken_off P x c.args.had lt had) (ap (λ (e : Edited). e.summary.rotation_legs) same ∙ rotation_legs) in
    let second = put off (with_row P x row) off_valid on_valid (put_on P x row lt) first.rotation_legs in
    relocated_both I P off (with_row P x row) x (seen c.args.log.now).summary (seen c.toggle_row.new.log).summary (seen c.toggle_row-2.new.log).summary
    (subst (λ (e : Edited). IsRelocated I P off x e.summary (seen c.toggle_row.new.log).summary) same first) second)

use Rattle.std.proofs.Common.{◌<◌, length, sym, subst, arith, ◌∙◌}
use Rattle.desk_data.specs.declared.row.Row.{Row}
use Rattle.desk_data.specs.declared.row.Row.TheVariants.{Flown, Cancelled}
use Rattle.desk_data.specs.PlanRows.{with_row}
use Rattle.desk_data.specs.Situation.{planes_of}
use Rattle.desk_data.specs.Valid.{IsRowOf}
use Rattle.board_rot.specs.Kept.{seen}
use Rattle.board_rot.specs.Changes.{IsRelocated}
use Rattle.board_rot.proofs.OutcomeLaws.{if_ok}
use Rattle.board_rot.proofs.EditLaws.{led_same}
use Rattle.desk_model.proofs.ValidLaws.{with_row-valid}
use Rattle.board_rot.proofs.ChangeLaws.{halves_of}
use Rattle.board_rot.proofs.change.stays_in_place.Goals as goal

pub retime_leg-requires-clause-plane : goal.retime_leg-requires-clause-plane
retime_leg-requires-clause-plane c = (subst (IsRowOf (planes_of c.args.inst.now)) c.in-Some.ensures.0 c.requires.had).0

pub retime_leg-requires-clause-from : goal.retime_leg-requires-clause-from
retime_leg-requires-clause-from c = (subst (IsRowOf (planes_of c.args.inst.now)) c.in-Some.ensures.0 c.requires.had).1

pub retime_leg-requires-clause-to : goal.retime_leg-requires-clause-to
retime_leg-requires-clause-to c = (subst (IsRowOf (planes_of c.args.inst.now)) c.in-Some.ensures.1 c.requires.row).1

pub returns-in-Some-clause-done : goal.returns-in-Some-clause-done
returns-in-Some-clause-done c = if_ok c.retime_leg.result c.retime_leg.ensures.done (λ is_done done so P valid had rotation_legs.
    let I = c.args.inst.now in
    let x = c.args.leg.0 in
    let one = c.in-Some.one in
    let are = c.in-Some.ensures in
    let lt : x < length P.rows = omega (arith, c.requires.leg, valid.legs) in
    let row : Row = Flown one.0 one.2 in
    let halves = halves_of P x one.0 one.1 one.2 lt (had ∙ are.0) in
    let then = with_row-valid I P x row (subst (IsRowOf (planes_of I)) are.1 c.requires.row) valid in
    subst (λ (other : Row). IsRelocated I P (with_row P x other) x (seen c.args.log.now).summary (seen c.retime_leg.new.log).summary) (sym are.1)
    (done so P (with_row P x Cancelled) (with_row P x row) valid then halves.0 halves.1 rotation_legs))

pub returns-in-None-clause-led : goal.returns-in-None-clause-led
returns-in-None-clause-led c = led_same (seen c.args.log.now)

use Rattle.std.proofs.Common.{ap, sym, subst, ◌∙◌, arith}
use Rattle.desk_data.specs.declared.info.PlaneInfo.{PlaneInfo}
use Rattle.board_cost.specs.RotationLegs.{IsRotationOf}
use Rattle.board_cost.specs.Board.{grounded}
use Rattle.board_cost.proofs.OpenLaws.{AreFirst, none_first, one_first, all_first, stands_first}
use Rattle.board_cost.proofs.opening.standing.Goals as goal

pub loop-p-init : goal.loop-p-init
loop-p-init c = subst (AreFirst c.args.inst.now 0) (sym c.new-rotations.ensures.items) (none_first c.args.inst.now)

pub loop-p-preserved : goal.loop-p-preserved
loop-p-preserved c =
    let I = c.args.inst.now in
    let p = c.loop-p.p in
    let r = c.new.result in
    let row = c.plane.ensures.row in
    let is : IsRotationOf I grounded p r = stands_first I p r
    (c.new.ensures.surface ∙ ap (λ (info : PlaneInfo). info.surface) row)
    (c.new.ensures.origin ∙ ap (λ (info : PlaneInfo). info.origin) row)
    (c.new.ensures.model ∙ ap (λ (info : PlaneInfo). info.model) row)
    (c.new.ensures.seats ∙ ap (λ (info : PlaneInfo). info.seats) row)
    c.new.ensures.rotation_legs in
    one_first I p c.loop-p.rotations.items c.push.new.self.items r c.loop-p.invariant c.in_ok-push.ensures.items is c.new.ensures.edits

pub returns-clause-rotations : goal.returns-clause-rotations
returns-clause-rotations c =
    all_first c.args.inst.now c.loop-p.p c.loop-p.rotations.items (omega (arith, c.loop-p-test.false, c.planes-p-end.ensures.count, c.loop-p.invariant.planes)) (omega (arith, c.planes-p-end.ensures.count, c.planes-p-end.ensures.limit)) c.loop-p.invariant

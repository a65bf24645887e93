use Rattle.std.proofs.Common.{◌∙◌, arith}
use Rattle.desk_data.specs.PlanRows.{with_row}
use Rattle.board_cost.specs.Board.{IsFleetOf}
use Rattle.board_cost.proofs.FleetLaws.{position_is, missing-le}
use Rattle.board_cost.proofs.MoveLaws.{positions-le}
use Rattle.board_cost.proofs.BoardLaws.{moved_fleet}
use Rattle.board_cost.proofs.row.move_rotation_legs.Goals as goal

pub positions_cost-old-requires : goal.positions_cost-old-requires
positions_cost-old-requires c = missing-le c.args.inst.now c.args.plan.now c.args.fleet.now c.parts-rows.ensures.valid c.requires.fleet

moved : (c : goal.After-edit_both) → IsFleetOf c.args.inst.now (with_row c.args.plan.now c.args.change.leg.0 c.args.change.new) c.edit_both.new.self
moved c =
    moved_fleet c.args.inst.now c.args.plan.now c.args.change.leg.0 c.args.change.new c.args.fleet.now c.edit_both.new.self c.args.rotation_legs.gone c.args.rotation_legs.come c.requires.leg (omega (arith, c.requires.leg, c.requires.plan.legs)) c.requires.gone c.requires.come
    c.edit_both.ensures.fleet c.requires.fleet

moved_both : (c : goal.After-positions_cost-new) → IsFleetOf c.args.inst.now (with_row c.args.plan.now c.args.change.leg.0 c.args.change.new) c.edit_both.new.self
moved_both c =
    moved_fleet c.args.inst.now c.args.plan.now c.args.change.leg.0 c.args.change.new c.args.fleet.now c.edit_both.new.self c.args.rotation_legs.gone c.args.rotation_legs.come c.requires.leg (omega (arith, c.requires.leg, c.requires.plan.legs)) c.requires.gone c.requires.come
    c.edit_both.ensures.fleet c.requires.fleet

pub positions_cost-new-requires : goal.positions_cost-new-requires
positions_cost-new-requires c = missing-le c.args.inst.now (with_row c.args.plan.now c.args.change.leg.0 c.args.change.new) c.edit_both.new.self c.parts-rows.ensures.valid (moved c)

pub returns-clause-fleet : goal.returns-clause-fleet
returns-clause-fleet c = moved_both c

pub returns-clause-old : goal.returns-clause-old
returns-clause-old c = c.positions_cost-old.ensures ∙ position_is c.args.inst.now c.args.plan.now c.args.fleet.now c.requires.fleet

pub returns-clause-new : goal.returns-clause-new
returns-clause-new c = c.positions_cost-new.ensures ∙ position_is c.args.inst.now (with_row c.args.plan.now c.args.change.leg.0 c.args.change.new) c.edit_both.new.self (moved_both c)

pub returns-clause-old_limit : goal.returns-clause-old_limit
returns-clause-old_limit c =
    omega (arith, c.positions_cost-old.ensures, position_is c.args.inst.now c.args.plan.now c.args.fleet.now c.requires.fleet, positions-le c.args.inst.now c.args.plan.now c.parts-rows.ensures.valid)

pub returns-clause-new_limit : goal.returns-clause-new_limit
returns-clause-new_limit c =
    let Q = with_row c.args.plan.now c.args.change.leg.0 c.args.change.new in
    omega (arith, c.positions_cost-new.ensures, position_is c.args.inst.now Q c.edit_both.new.self (moved_both c), positions-le c.args.inst.now Q c.parts-rows.ensures.valid)

use Rattle.std.proofs.Common.{◌+◌, ◌<◌, ap, ◌∙◌, arith}
use Rattle.desk_data.specs.Situation.{legs_of}
use Rattle.board_cost.specs.RotationLegs.{placed_of}
use Rattle.board_cost.proofs.OpenLaws.{first_rows, starts, next_leg, all_legs}
use Rattle.board_cost.proofs.opening.rotations_of.Goals as goal

pub loop-x-init : goal.loop-x-init
loop-x-init g c = record {
  rotations = starts c.args.inst.now (g.P.ReadPlan.plan_of c.args.plan.now) c.in_ok-rotations.rotations.items c.in_ok-rotations.ensures.rotations;
  edits = c.in_ok-rotations.ensures.edits;
}

pub loop-x-preserved : goal.loop-x-preserved
loop-x-preserved g c =
    let I = c.args.inst.now in
    let P = g.P.ReadPlan.plan_of c.args.plan.now in
    let x = c.loop-x.x in
    let lt : x < legs_of I = omega (arith, c.loop-x-test.true, c.legs-x-end.ensures.count) in
    record {
      rotations = c.in_ok-start.ensures.rotations I (first_rows x P) (first_rows (x + 1) P) c.loop-x.invariant.rotations
          (next_leg I P x c.placed_of.result lt (c.placed_of.ensures.placed ∙ ap (placed_of I x) c.read_row.ensures.row));
      edits = c.in_ok-start.ensures.edits;
    }

pub returns-clause-rotations : goal.returns-clause-rotations
returns-clause-rotations g c =
    let I = c.args.inst.now in
    let P = g.P.ReadPlan.plan_of c.args.plan.now in
    all_legs I P c.loop-x.x c.loop-x.rotations.items (omega (arith, c.loop-x-test.false, c.legs-x-end.ensures.count, c.requires.legs)) c.loop-x.invariant.rotations

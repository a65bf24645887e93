use Rattle.std.proofs.Common.{◌≡◌, subst, ◌∙◌, arith}
use Rattle.std.specs.Prelude.{Option, None}
use Rattle.std.proofs.lemmas.List.{get_or_default}
use Rattle.desk_units.specs.declared.numbers.Airport.{Airport}
use Rattle.board_cost.specs.declared.kind.AircraftKind.{AircraftKind}
use Rattle.board_cost.specs.RotationLegs.{no_rotation, rotation_at, end_of}
use Rattle.board_cost.specs.Positions.{Moves}
use Rattle.board_cost.proofs.OpenLaws.{one_hand, all_hands}
use Rattle.board_cost.proofs.opening.positions_of.Goals as goal

pub loop-rotation-init : goal.loop-rotation-init
loop-rotation-init c P are = c.in_ok-positions.ensures

pub loop-rotation-preserved : goal.loop-rotation-preserved
loop-rotation-preserved c =
    let rotations = c.args.rotations.now in
    let n = c.loop-rotation.rotation-index in
    let rotation = c.rotation-item.result in
    let at : rotation ≡ rotation_at rotations n = c.rotation-item.is ∙ get_or_default rotations n rotation no_rotation c.loop-rotation-test.true in
    let old = c.loop-rotation.positions.rows in
    let new = c.move_plane.new.self.rows in
    let moves = subst (λ (k : AircraftKind). Moves old new k None (end_of rotation)) c.kind.ensures
    (subst (λ (to : Option Airport). Moves old new c.kind.result None to) c.end.ensures c.move_plane.ensures) in
    one_hand c.args.inst.now rotations n old new rotation c.loop-rotation-test.true at moves c.loop-rotation.invariant

pub returns : goal.returns
returns c P are = all_hands c.args.inst.now c.args.rotations.now c.loop-rotation.rotation-index c.loop-rotation.positions.rows P (omega (arith, c.loop-rotation-test.false)) c.loop-rotation.invariant are

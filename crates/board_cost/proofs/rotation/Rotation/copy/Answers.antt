use Rattle.std.proofs.Common.{List, ap, ◌∙◌}
use Rattle.board_cost.specs.declared.rotation_leg.ArrivingLeg.{ArrivingLeg}
use Rattle.board_cost.specs.RotationLegs.{RotationRow, without_edits_and_room}
use Rattle.board_cost.proofs.rotation.Rotation.copy.Goals as goal

pub returns : goal.returns
returns c =
    let s = c.self.inside in
    ap (λ (legs : List ArrivingLeg). let r : RotationRow = record { surface = s.surface; origin = s.origin; kind = s.kind; rotation_legs = legs; edits = 0; room = 0 } in r) c.in_ok-rotation_legs.ensures.items
    ∙ ap (λ (r : RotationRow). without_edits_and_room r) c.self.view_is

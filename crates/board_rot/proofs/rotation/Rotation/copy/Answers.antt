use Rattle.std.proofs.Common.{List, ap, ◌∙◌}
use Rattle.plan_reads.specs.declared.rotation_leg.RotationLeg.{RotationLeg}
use Rattle.board_rot.specs.Kept.{RotationLegs, without_edits}
use Rattle.board_rot.proofs.rotation.Rotation.copy.Goals as goal

abbrev unedited : List RotationLeg → RotationLegs
unedited legs = record { rotation_legs = legs; edits = 0 }

pub returns : goal.returns
returns c = ap unedited c.in_ok-rotation_legs.ensures.items ∙ ap (λ (r : RotationLegs). without_edits r) c.self.view_is

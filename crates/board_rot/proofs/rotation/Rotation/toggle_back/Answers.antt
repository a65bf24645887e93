use Rattle.std.proofs.Common.{ap, ◌∙◌}
use Rattle.board_rot.specs.Summaries.{same_rotation_leg, turned}
use Rattle.board_rot.specs.Kept.{has_rotation_leg, RotationLegs}
use Rattle.board_rot.proofs.rotation.Rotation.toggle_back.Goals as goal

pub returns-clause-has : goal.returns-clause-has
returns-clause-has c = c.toggle.ensures.has ∙ ap (λ (r : RotationLegs). turned (λ t. same_rotation_leg t c.args.rotation_leg) (has_rotation_leg r.rotation_legs)) c.self.view_is

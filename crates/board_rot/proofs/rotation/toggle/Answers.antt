use Rattle.board_rot.specs.Summaries.{same_rotation_leg}
use Rattle.board_rot.proofs.TestLaws.{toggled_set}
use Rattle.board_rot.proofs.RotationLegLaws.{rotation_legs_same, rotation_legs_exact}
use Rattle.board_rot.proofs.rotation.toggle.Goals as goal

pub returns-clause-has : goal.returns-clause-has
returns-clause-has c = toggled_set same_rotation_leg c.args.rotation_legs.now.items c.toggle.new.self.items c.args.rotation_leg rotation_legs_same (c.toggle.ensures.set rotation_legs_exact)

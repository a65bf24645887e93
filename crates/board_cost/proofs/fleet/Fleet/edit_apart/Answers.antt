use Rattle.std.proofs.Common.{◌+◌, refl}
use Rattle.board_cost.specs.RotationLegs.{rotation_at}
use Rattle.board_cost.specs.Board.{edits_in}
use Rattle.board_cost.proofs.MoveLaws.{few_after}
use Rattle.board_cost.proofs.fleet.Fleet.edit_apart.Goals as goal

pub edit-requires-2-clause-few : goal.edit-requires-2-clause-few
edit-requires-2-clause-few c =
    few_after c.args.self.now.rotations c.edit.new.self.rotations c.args.legs.gone c.edit.ensures.planes c.requires.few (c.edit.ensures.edits (λ p. (rotation_at c.args.self.now.rotations p).edits) (λ p lt. refl))

pub returns-clause-fleet : goal.returns-clause-fleet
returns-clause-fleet c I P R Q is left joined = c.edit-2.ensures.fleet I R Q (c.edit.ensures.fleet I P R is left) joined

pub returns-clause-edits : goal.returns-clause-edits
returns-clause-edits c n has = c.edit-2.ensures.edits (λ p. n p + edits_in p c.args.legs.gone) (c.edit.ensures.edits n has)

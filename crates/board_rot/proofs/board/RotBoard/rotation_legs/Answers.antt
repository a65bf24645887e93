use Rattle.std.proofs.Common.{◌∙◌, ap}
use Rattle.board_rot.specs.Summaries.{Summary}
use Rattle.board_rot.specs.Boards.{summary_now}
use Rattle.board_rot.proofs.RotationLaws.{legs_rotation, rotation_legs_of_plan}
use Rattle.board_rot.proofs.board.RotBoard.rotation_legs.Goals as goal

pub returns-clause-legs : goal.returns-clause-legs
returns-clause-legs c I P Ps valid is =
    let p = c.args.plane.0 in
    let has = c.rotation_legs.ensures.rotation_legs ∙ ap (λ (s : Summary). s.rotation_legs p) (ap summary_now c.self.view_is ∙ is.now.summary) in
    legs_rotation I P p c.rotation_legs.result.now valid has c.rotation_legs.ensures.order

pub returns-clause-rows : goal.returns-clause-rows
returns-clause-rows c I P Ps valid is =
    let p = c.args.plane.0 in
    let has = c.rotation_legs.ensures.rotation_legs ∙ ap (λ (s : Summary). s.rotation_legs p) (ap summary_now c.self.view_is ∙ is.now.summary) in
    rotation_legs_of_plan I P c.args.plane c.rotation_legs.result.now valid has

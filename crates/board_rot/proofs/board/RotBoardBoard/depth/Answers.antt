use Rattle.std.proofs.Common.{◌∙◌}
use Rattle.board_rot.proofs.BoardLaws.{board_depth}
use Rattle.board_rot.proofs.board.RotBoardBoard.depth.Goals as goal

pub returns-clause-plans : goal.returns-clause-plans
returns-clause-plans c I P Ps is =
    let savepoints = board_depth I P Ps c.self.inside.log c.self.inside.savepoints.items c.args.self.now c.self.view_is is in
    c.len.ensures ∙ c.self.inside.savepoints.ok.0 ∙ savepoints

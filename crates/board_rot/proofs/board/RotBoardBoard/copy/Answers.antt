use Rattle.board_rot.proofs.BoardLaws.{board_forgot}
use Rattle.board_rot.proofs.board.RotBoardBoard.copy.Goals as goal

pub returns : goal.returns
returns c I P Ps is =
    board_forgot I P Ps c.self.inside.log c.in_ok-log.log c.new.result.items c.self.inside.savepoints.items c.args.self.now c.self.view_is c.in_ok-log.ensures c.new.ensures.items is

use Rattle.board_rot.proofs.BoardLaws.{board_forgot}
use Rattle.board_rot.proofs.board.RotBoardBoard.forget.Goals as goal

pub returns : goal.returns
returns c I P Ps is =
    board_forgot I P Ps c.self.inside.log c.forget.new.self c.clear.new.self.items c.self.inside.savepoints.items c.args.self.now c.self.view_is c.forget.ensures c.clear.ensures.items is

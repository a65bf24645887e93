use Rattle.board_kit.proofs.CopyLaws.{copied_board}
use Rattle.board_kit.proofs.slot_board.SlotBoardBoard.copy.Goals as goal

pub returns : goal.returns
returns c I P Ps is =
    copied_board I P Ps c.self.inside.loads c.in_ok-loads.loads c.self.inside.past.items c.new.result.items c.args.self.now c.self.view_is c.in_ok-loads.ensures.loads c.new.ensures.items is

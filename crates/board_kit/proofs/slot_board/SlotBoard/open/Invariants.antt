use Rattle.board_kit.specs.Slots.{AreCounted, taken_first}
use Rattle.board_kit.proofs.slot_board.SlotBoard.open.Given as goal

-- the slots are taken by the legs so far
abbrev pub invariant-loop-x : goal.invariant-loop-x
invariant-loop-x g l = AreCounted l.inst (taken_first l.x l.inst (g.P.ReadPlan.plan_of l.plan)) l.loads.loads

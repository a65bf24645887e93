use Rattle.board_cost.proofs.OpenLaws.{AreHandsOf}
use Rattle.board_cost.proofs.opening.positions_of.Given as goal

-- the aircraft so far are counted
abbrev pub invariant-loop-rotation : goal.invariant-loop-rotation
invariant-loop-rotation l = AreHandsOf l.inst l.rotations l.rotation-index l.positions.rows

use Rattle.board_cost.proofs.OpenLaws.{AreFirst}
use Rattle.board_cost.proofs.opening.standing.Given as goal

-- the aircraft so far
abbrev pub invariant-loop-p : goal.invariant-loop-p
invariant-loop-p l = AreFirst l.inst l.p l.rotations.items

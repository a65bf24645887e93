use Rattle.board_cost.specs.Board.{AreRotationsOf, HasEdits}
use Rattle.board_cost.proofs.OpenLaws.{first_rows}
use Rattle.board_cost.proofs.opening.rotations_of.Given as goal

-- the legs so far
abbrev pub invariant-loop-x : goal.invariant-loop-x
invariant-loop-x g l = record {
  rotations : AreRotationsOf l.inst (first_rows l.x (g.P.ReadPlan.plan_of l.plan)) l.rotations.items;
  edits : HasEdits (λ p. 0) l.rotations.items;
}

use Rattle.std.proofs.Common.{◌≡◌, true, length}
use Rattle.std.specs.Prelude.{find, All}
use Rattle.plan_moves.specs.Fits.{Fits}
use Rattle.near_moves.specs.Descent.{is_better}
use Rattle.near_search.specs.Out.{AreMovesOut, AreMovesOutByRows}
use Rattle.near_search.proofs.trial.try_all.Given as goal

-- the moves are near the plan, which stands as it stood, and what is found among those that are left is what is found among all; and all are out, or out by rows alone, if those that are left are
abbrev pub invariant-loop-m : goal.invariant-loop-m
invariant-loop-m g l = record {
  of : g.M.MovesLeft.is_of l.fn.eval.inst l.fn.eval.rows l.moves;
  eval : l.eval ≡ l.fn.eval;
  units_after : g.M.MovesLeft.units_after l.fn.eval.inst l.fn.eval.rows l.moves ≡ g.M.MovesLeft.units_after l.fn.eval.inst l.fn.eval.rows l.fn.moves;
  same : find (is_better l.fn.eval.inst l.fn.eval.rows) (g.M.MovesLeft.left l.fn.eval.inst l.fn.eval.rows l.moves) ≡ find (is_better l.fn.eval.inst l.fn.eval.rows) (g.M.MovesLeft.left l.fn.eval.inst l.fn.eval.rows l.fn.moves);
  out : l.out ≡ true → AreMovesOut l.fn.eval.inst l.fn.eval.rows (g.M.MovesLeft.left l.fn.eval.inst l.fn.eval.rows l.moves) → AreMovesOut l.fn.eval.inst l.fn.eval.rows (g.M.MovesLeft.left l.fn.eval.inst l.fn.eval.rows l.fn.moves);
  by_rows : l.by_rows ≡ true → AreMovesOutByRows l.fn.eval.inst l.fn.eval.rows (g.M.MovesLeft.left l.fn.eval.inst l.fn.eval.rows l.moves) → AreMovesOutByRows l.fn.eval.inst l.fn.eval.rows (g.M.MovesLeft.left l.fn.eval.inst l.fn.eval.rows l.fn.moves);
  fits : All (Fits l.fn.eval.inst) (g.M.MovesLeft.left l.fn.eval.inst l.fn.eval.rows l.moves);
}

abbrev pub decreases-loop-m : goal.decreases-loop-m
decreases-loop-m g l = length (g.M.MovesLeft.left l.fn.eval.inst l.fn.eval.rows l.moves)

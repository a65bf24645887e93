use Rattle.std.proofs.Common.{◌≡◌, length}
use Rattle.std.specs.Prelude.{find, All}
use Rattle.plan_moves.specs.Fits.{Fits}
use Rattle.near_moves.specs.Near.{moves_of}
use Rattle.near_moves.specs.Descent.{is_better}
use Rattle.near_pax.specs.Left.{IsOf, left, units_left}
use Rattle.near_search.specs.Noted.{AreNotedAt}
use Rattle.near_search.proofs.passengers.first_of_passengers.Given as goal

-- what is found among the moves of the units that are left is what is found among all
abbrev pub invariant-loop-res : goal.invariant-loop-res
invariant-loop-res g l = record {
  of : IsOf l.fn.eval.inst l.fn.eval.rows l.moves;
  notes : AreNotedAt l.fn.eval.inst l.fn.eval.rows l.notes;
  eval : l.eval ≡ l.fn.eval;
  same : find (is_better l.fn.eval.inst l.fn.eval.rows) (moves_of l.fn.eval.inst l.fn.eval.rows (units_left l.fn.eval.inst l.fn.eval.rows l.moves)) ≡ find (is_better l.fn.eval.inst l.fn.eval.rows) (left l.fn.eval.inst l.fn.eval.rows l.fn.moves);
  fits : All (Fits l.fn.eval.inst) (moves_of l.fn.eval.inst l.fn.eval.rows (units_left l.fn.eval.inst l.fn.eval.rows l.moves));
}

abbrev pub decreases-loop-res : goal.decreases-loop-res
decreases-loop-res g l = length (units_left l.fn.eval.inst l.fn.eval.rows l.moves)

use Rattle.std.proofs.Common.{◌≡◌, length}
use Rattle.std.specs.Prelude.{find, All}
use Rattle.plan_moves.specs.Fits.{Fits}
use Rattle.near_moves.specs.Near.{moves_of}
use Rattle.near_moves.specs.Descent.{is_better}
use Rattle.near_legs.specs.Walk.{IsUnitWalk, units_left}
use Rattle.near_search.specs.Noted.{AreUnitsNotedAt}
use Rattle.near_search.proofs.legs.first_of_legs.Given as goal

-- what is found among the moves of the units that are left is what is found among all
abbrev pub invariant-loop-unit : goal.invariant-loop-unit
invariant-loop-unit g l = record {
  walk : IsUnitWalk l.fn.eval.inst l.fn.eval.rows l.units;
  eval : l.eval ≡ l.fn.eval;
  notes : AreUnitsNotedAt l.fn.eval.inst l.fn.eval.rows l.notes;
  same : find (is_better l.fn.eval.inst l.fn.eval.rows) (moves_of l.fn.eval.inst l.fn.eval.rows (units_left l.fn.eval.inst l.fn.eval.rows l.units)) ≡ find (is_better l.fn.eval.inst l.fn.eval.rows) (moves_of l.fn.eval.inst l.fn.eval.rows (units_left l.fn.eval.inst l.fn.eval.rows l.fn.units));
  fits : All (Fits l.fn.eval.inst) (moves_of l.fn.eval.inst l.fn.eval.rows (units_left l.fn.eval.inst l.fn.eval.rows l.units));
}

abbrev pub decreases-loop-unit : goal.decreases-loop-unit
decreases-loop-unit g l = length (units_left l.fn.eval.inst l.fn.eval.rows l.units)

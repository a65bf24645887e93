use Rattle.std.proofs.Common.{length}
use Rattle.near_pax.specs.Left.{IsOf, units_left}
use Rattle.near_search.specs.Noted.{AreNotedAt}
use Rattle.near_search.specs.Passed.{IsPast}
use Rattle.near_search.proofs.passengers.go_on.Given as goal

-- the paths before those that are left were passed over
abbrev pub invariant-loop-res : goal.invariant-loop-res
invariant-loop-res l = record {
  of : IsOf l.eval.inst l.eval.rows l.moves;
  notes : AreNotedAt l.eval.inst l.eval.rows l.notes;
  past : IsPast l.eval.inst l.eval.rows (units_left l.eval.inst l.eval.rows l.fn.moves) (units_left l.eval.inst l.eval.rows l.moves);
}

abbrev pub decreases-loop-res : goal.decreases-loop-res
decreases-loop-res l = length (units_left l.eval.inst l.eval.rows l.moves)

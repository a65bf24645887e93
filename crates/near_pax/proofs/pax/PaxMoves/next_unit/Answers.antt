use Rattle.std.proofs.Common.{refl, ap}
use Rattle.near_moves.specs.Near.{moves_of}
use Rattle.near_pax.specs.Left.{unit_left, units_left, left_of_unit}
use Rattle.near_pax.proofs.pax.PaxMoves.next_unit.Goals as goal

pub returns-in-Some-clause-unit : goal.returns-in-Some-clause-unit
unfolding units_left
returns-in-Some-clause-unit c = c.in-Some.ensures.some

pub returns-in-Some-clause-moves : goal.returns-in-Some-clause-moves
unfolding unit_left left_of_unit
returns-in-Some-clause-moves c = refl

pub returns-in-None-clause-none : goal.returns-in-None-clause-none
unfolding units_left
returns-in-None-clause-none c = c.in-None.ensures.none

pub returns-in-None-clause-spent : goal.returns-in-None-clause-spent
unfolding unit_left units_left
returns-in-None-clause-spent c = ap (moves_of c.args.inst.now c.args.plan.now) c.in-None.ensures.spent

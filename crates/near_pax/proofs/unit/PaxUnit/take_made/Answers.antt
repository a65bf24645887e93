use Rattle.std.proofs.Common.{◌≡◌, List, sym, ap, subst}
use Rattle.std.specs.Prelude.{IfOk}
use Rattle.plan_moves.specs.declared.moves.Move.{Move}
use Rattle.near_pax.specs.Units.{path_at}
use Rattle.near_pax.specs.Left.{left_of_unit, left_if_made, left_of_made}
use Rattle.near_pax.proofs.unit.PaxUnit.take_made.Goals as goal

pub returns-in-Some-clause-left : goal.returns-in-Some-clause-left
unfolding left_of_unit
returns-in-Some-clause-left c =
    let u = c.args.self.now in
    ap (left_if_made c.args.inst.now c.args.plan.now u.res.0 u.place) (sym c.in-Some.ensures.value)

pub returns-in-None-clause-left : goal.returns-in-None-clause-left
unfolding left_of_unit
returns-in-None-clause-left c =
    let u = c.args.self.now in
    let I = c.args.inst.now in
    let P = c.args.plan.now in
    subst (λ (ms : List Move). IfOk c.of.result (λ made. ms ≡ left_of_made u.res.0 (path_at P u.res.0 u.place) made)) (ap (left_if_made I P u.res.0 u.place) c.in-None.ensures.value) c.of.ensures.left

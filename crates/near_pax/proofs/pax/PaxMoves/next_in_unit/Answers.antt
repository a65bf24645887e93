use Rattle.std.proofs.Common.{◌≡◌, List, sym, ap, subst, refl}
use Rattle.std.specs.Prelude.{IfOk, OnErr}
use Rattle.plan_moves.specs.declared.moves.Move.{Move}
use Rattle.near_pax.specs.Left.{Gives, unit_left, units_left, left_of_unit, left_if_any}
use Rattle.near_pax.proofs.pax.PaxMoves.next_in_unit.Goals as goal

pub returns-in-Some-clause-units : goal.returns-in-Some-clause-units
unfolding units_left
returns-in-Some-clause-units c = refl

pub returns-in-Some-clause-ok : goal.returns-in-Some-clause-ok
unfolding unit_left
returns-in-Some-clause-ok c =
    let I = c.args.inst.now in
    let P = c.args.plan.now in
    subst (λ (ms : List Move). IfOk c.next.result (λ next. Gives next ms (left_of_unit I P c.next.new.self))) (sym (ap (left_if_any I P) c.in-Some.is)) c.next.ensures.ok

pub returns-in-Some-clause-err : goal.returns-in-Some-clause-err
unfolding unit_left
returns-in-Some-clause-err c =
    let I = c.args.inst.now in
    let P = c.args.plan.now in
    subst (λ (ms : List Move). OnErr c.next.result (left_of_unit I P c.next.new.self ≡ ms)) (sym (ap (left_if_any I P) c.in-Some.is)) c.next.ensures.err

pub returns-in-None-clause-ok : goal.returns-in-None-clause-ok
unfolding unit_left
returns-in-None-clause-ok c =
    let none = ap (left_if_any c.args.inst.now c.args.plan.now) c.in-None.is in
    (none, none)

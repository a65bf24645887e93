use Rattle.std.proofs.Common.{◌≡◌, sym, arith}
use Rattle.std.specs.Prelude.{Some}
use Rattle.ferry_legs.specs.Steps.{paying_of}
use Rattle.ferry_legs.proofs.NextLaws.{first_next, none_next}
use Rattle.ferry_legs.proofs.kept.Kept.next.Goals as goal

pub returns-in-Some-clause-next : goal.returns-in-Some-clause-next
returns-in-Some-clause-next g c =
    let I = c.args.inst.now in
    let P = c.args.plan.now in
    let is : paying_of I P g.added c.loop-p.p ≡ Some c.in-Some.leg = sym c.in-Some.ensures.next in
    sym (first_next I P g.added c.loop-p.p c.in-Some.leg (omega (arith, c.loop-p-test.true, c.planes-p-end.ensures.count)) is c.loop-p.invariant)

pub returns-clause-next : goal.returns-clause-next
returns-clause-next g c =
    sym (none_next c.args.inst.now c.args.plan.now g.added
    (λ p lt. c.loop-p.invariant p (omega (arith, lt, c.loop-p-test.false, c.planes-p-end.ensures.count))))

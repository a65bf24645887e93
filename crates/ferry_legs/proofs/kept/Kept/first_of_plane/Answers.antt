use Rattle.std.proofs.Common.{◌≡◌, Bool, true, false, ◌||◌, List, get_or, ap, sym, ◌∙◌, arith}
use Rattle.std.specs.Prelude.{Some}
use Rattle.desk_data.specs.Situation.{plane_at}
use Rattle.ferry_legs.specs.Steps.{paying}
use Rattle.ferry_legs.proofs.NextLaws.{first_of_plane, none_of_plane, none_of_staying}
use Rattle.ferry_legs.proofs.kept.Kept.first_of_plane.Goals as goal

pub returns-in-Some-clause-next : goal.returns-in-Some-clause-next
returns-in-Some-clause-next g c =
    let I = c.args.inst.now in
    let P = c.args.plan.now in
    let p = c.args.plane.0 in
    let is : paying I P g.added p c.loop-d.d ≡ Some c.in-Some.leg = sym c.in-Some.ensures.leg in
    sym (first_of_plane I P g.added p c.loop-d.d c.in-Some.leg (omega (arith, c.loop-d-test.true, c.airports-d-end.ensures.count)) is c.loop-d.invariant)

pub returns-clause-next : goal.returns-clause-next
returns-clause-next g c =
    sym (none_of_plane c.args.inst.now c.args.plan.now g.added c.args.plane.0
    (λ d lt. c.loop-d.invariant d (omega (arith, lt, c.loop-d-test.false, c.airports-d-end.ensures.count))))

pub returns-then-stays-clause-next : goal.returns-then-stays-clause-next
returns-then-stays-clause-next g c =
    let I = c.args.inst.now in
    let p = c.args.plane.0 in
    let taken = c.args.self.now.taken.items in
    let stays : ((plane_at I p).surface || get_or taken p false) ≡ true =
    ap (λ (t : List Bool). (plane_at I p).surface || get_or t p false) (sym c.as_slice.ensures.value) ∙ sym c.stays-stays.ensures ∙ c.if-stays.true in
    sym (none_of_staying I c.args.plan.now g.added taken p c.requires.1.0.taken c.requires.1.1 stays)

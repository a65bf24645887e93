use Rattle.std.proofs.Common.{◌≡◌, ℕ, List, get_or, sym, ap, subst, ◌∙◌}
use Rattle.std.specs.Prelude.{IfOk, Some}
use Rattle.std.proofs.lemmas.Result.{on_err_weaker}
use Rattle.desk_units.specs.declared.numbers.Res.{Res}
use Rattle.plan_moves.specs.declared.moves.Move.{Move}
use Rattle.near_pax.specs.declared.unit.PaxUnit.{PaxUnit}
use Rattle.near_pax.specs.Units.{group_at, path_at}
use Rattle.near_pax.specs.Left.{Gives, left_of_unit, left_of_made}
use Rattle.near_pax.proofs.GroupLaws.{group-here}
use Rattle.near_pax.proofs.StandLaws.{unit-stays}
use Rattle.near_pax.proofs.unit.PaxUnit.next.Goals as goal

pub returns-clause-unit : goal.returns-clause-unit
returns-clause-unit c =
    unit-stays c.args.inst.now c.args.plan.now c.args.self.now c.take_made.new.self.res c.take_made.new.self.place c.in_ok-made.made c.next-next.new.self
    c.requires.unit c.in_ok-made.ensures.res c.in_ok-made.ensures.place c.in_ok-made.ensures.made c.next-next.ensures.aims c.next-next.ensures.counts c.next-next.ensures.within

pub returns-clause-ok : goal.returns-clause-ok
unfolding left_of_unit
returns-clause-ok c =
    let I = c.args.inst.now in
    let P = c.args.plan.now in
    let u = c.args.self.now in
    let res = c.take_made.new.self.res in
    let place = c.take_made.new.self.place in
    let made = c.in_ok-made.made in
    let next = c.next-next.new.self in
    let v : PaxUnit = record { res = res; place = place; made = Some next } in
    let own = unit-stays I P u res place made next c.requires.unit c.in_ok-made.ensures.res c.in_ok-made.ensures.place c.in_ok-made.ensures.made c.next-next.ensures.aims c.next-next.ensures.counts c.next-next.ensures.within in
    let group = get_or c.groups.result.now place c.index-groups-self.result in
    let is : group ≡ group_at P res.0 place = sym c.index-groups-self.is ∙ group-here P res.0 place c.groups.result.now c.index-groups-self.result c.groups.ensures.groups own.place c.index-groups-self.is in
    let before : left_of_made res.0 group.path made ≡ left_of_unit I P u =
    ap (λ g. left_of_made res.0 g.path made) is
    ∙ ap (λ (r : Res). left_of_made r.0 (path_at P r.0 place) made) c.in_ok-made.ensures.res
    ∙ ap (λ (p : ℕ). left_of_made u.res.0 (path_at P u.res.0 p) made) c.in_ok-made.ensures.place
    ∙ sym c.in_ok-made.ensures.left in
    let after : left_of_made res.0 group.path next ≡ left_of_unit I P v = ap (λ g. left_of_made res.0 g.path next) is in
    subst (λ (ms : List Move). IfOk c.next-next.result (λ given. Gives given (left_of_unit I P u) ms)) after
    (subst (λ (ms : List Move). IfOk c.next-next.result (λ given. Gives given ms (left_of_made res.0 group.path next))) before c.next-next.ensures.ok)

pub returns-clause-err : goal.returns-clause-err
unfolding left_of_unit
returns-clause-err c =
    let I = c.args.inst.now in
    let P = c.args.plan.now in
    let u = c.args.self.now in
    let res = c.take_made.new.self.res in
    let place = c.take_made.new.self.place in
    let made = c.in_ok-made.made in
    let next = c.next-next.new.self in
    let before : left_of_made res.0 (path_at P res.0 place) made ≡ left_of_unit I P u =
    ap (λ (r : Res). left_of_made r.0 (path_at P r.0 place) made) c.in_ok-made.ensures.res
    ∙ ap (λ (p : ℕ). left_of_made u.res.0 (path_at P u.res.0 p) made) c.in_ok-made.ensures.place
    ∙ sym c.in_ok-made.ensures.left in
    on_err_weaker c.next-next.result (λ same. ap (left_of_made res.0 (path_at P res.0 place)) same ∙ before) c.next-next.ensures.err

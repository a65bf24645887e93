use Rattle.std.proofs.Common.{◌≡◌, ◌&&◌, get_or, subst, arith}
use Rattle.std.specs.Prelude.{None}
use Rattle.std.specs.List.{All}
use Rattle.std.proofs.lemmas.List.{take_all}
use Rattle.std.proofs.lemmas.List.Elements.{All-more}
use Rattle.desk_units.specs.declared.numbers.Plane.{Plane}
use Rattle.desk_data.specs.declared.info.PlaneInfo.{PlaneInfo}
use Rattle.desk_rules.specs.Cost.{is_wanted}
use Rattle.plan_checks.specs.Stands.{is_there}
use Rattle.near_untouched.proofs.HandLaws.{IsSameHand, hands-same}
use Rattle.near_untouched.proofs.positions.has_same_at_hand.Goals as goal

pub loop-plane-preserved : goal.loop-plane-preserved
loop-plane-preserved c =
    let I = c.args.plans.now.inst.now in
    let none : Plane = record { 0 = 0 } in
    let was = c.args.was.now in
    let now = c.args.now.now in
    let position = c.args.position.now in
    let a = position.airport.0 in
    let q = (get_or c.args.planes.now c.loop-plane.plane-index none).0 in
    All-more (λ (q : Plane). IsSameHand I c.args.was.now c.args.now.now c.args.position.now q.0) c.args.planes.now c.loop-plane.plane-index none c.loop-plane-test.true c.loop-plane.invariant
    (subst (λ (row : PlaneInfo). (is_wanted position row && is_there (get_or was q None) a) ≡ (is_wanted position row && is_there (get_or now q None) a)) c.plane.ensures.row (c.counts_other.ensures c.if-counts_other.false))

pub returns : goal.returns
returns c = λ is.
    (let I = c.args.plans.now.inst.now in
    hands-same I c.args.plans.now.earlier.now c.args.plans.now.later.now c.args.was.now c.args.now.now c.args.planes.now c.args.position.now c.requires.was c.requires.now c.requires.planes
    (subst (All (λ (q : Plane). IsSameHand I c.args.was.now c.args.now.now c.args.position.now q.0)) (take_all c.loop-plane.plane-index c.args.planes.now (omega arith)) c.loop-plane.invariant))

use Rattle.std.proofs.Common.{ℕ, List, ap, arith}
use Rattle.std.specs.Prelude.{sum_by}
use Rattle.std.proofs.lemmas.Bool.{leb-true}
use Rattle.desk_units.specs.declared.numbers.Leg.{Leg}
use Rattle.desk_model.specs.Push.{rotation}
use Rattle.near_priced.specs.Tables.{amount}
use Rattle.near_dear.proofs.StepLaws.{cancels-are, cancels-flown, flying-is, paid-le}
use Rattle.near_dear.proofs.drops.is_dear_drop.Goals as goal

pub returns-clause-cancels : goal.returns-clause-cancels
returns-clause-cancels c = λ known. cancels-are c.args.plan.now c.args.plane.0 c.args.steps.now (c.cancel_all.ensures c.if-not-cancel_all.false)

pub returns-clause-flown : goal.returns-clause-flown
returns-clause-flown c = λ known. cancels-flown c.args.plan.now c.args.plane.0 c.args.steps.now (c.cancel_all.ensures c.if-not-cancel_all.false)

pub returns-clause-dear : goal.returns-clause-dear
returns-clause-dear c = λ known.
    (let I = c.args.inst.now in
    let P = c.args.plan.now in
    let p = c.args.plane.0 in
    let leg = c.in-Some.leg in
    let flown = c.in-Some-left_by_flying in
    let paid = c.in-Some-left_by_legs in
    let payments = c.args.payments.now in
    let flying = c.left_by_flying.ensures flown.left flown.is in
    let paying = c.left_by_legs.ensures paid.left paid.is in
    let amounts = ap (λ (all : List ℕ). sum_by (λ (one : Leg). amount all one.0) c.args.legs.now) c.on.ensures in
    let pay = paid-le I P payments.on.items payments.booked.items c.args.legs.now (rotation I P p) c.requires.payments.amounts c.requires.legs in
    let saves = c.saved.ensures in
    let enough = leb-true _ _ known in
    let owed = c.requires.owed.each leg.0 in
    record {
      leg = leg.0;
      has = c.dearest.ensures leg c.in-Some.is;
      dear = omega (arith, flying, paying, amounts, pay, saves, enough, owed, c.amount_of.ensures, flying-is I P c.args.steps.now);
    })

use Rattle.std.proofs.Common.{◌≡◌, false, sym, subst, ◌∙◌, arith}
use Rattle.std.specs.List.{All}
use Rattle.std.proofs.lemmas.List.{take_all}
use Rattle.std.proofs.lemmas.List.Elements.{All-more}
use Rattle.desk_units.specs.declared.numbers.Leg.{Leg}
use Rattle.near_notes.specs.Onward.{may_follow}
use Rattle.near_notes.proofs.untouched.may_use_none.Goals as goal

pub loop-leg-preserved : goal.loop-leg-preserved
loop-leg-preserved c =
    let I = c.args.plans.now.inst.now in
    let Q = c.args.plans.now.plan.now in
    let none : Leg = record { 0 = 0 } in
    All-more (λ (leg : Leg). may_follow I Q c.args.outset.now leg.0 ≡ false) c.as_slice-leg-items.result.now c.loop-leg.leg-index none c.loop-leg-test.true c.loop-leg.invariant (sym c.may_use.ensures ∙ c.if-may_use.false)

pub returns : goal.returns
returns c = λ is.
    (let I = c.args.plans.now.inst.now in
    let Q = c.args.plans.now.plan.now in
    subst (All (λ (leg : Leg). may_follow I Q c.args.outset.now leg.0 ≡ false)) (take_all c.loop-leg.leg-index c.as_slice-leg-items.result.now (omega arith) ∙ c.as_slice-leg-items.ensures.value) c.loop-leg.invariant)

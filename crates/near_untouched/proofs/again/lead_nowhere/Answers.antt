use Rattle.std.proofs.Common.{◌≡◌, false, sym, subst, ◌∙◌, arith}
use Rattle.std.specs.List.{All}
use Rattle.std.proofs.lemmas.List.{take_all}
use Rattle.std.proofs.lemmas.List.Elements.{All-more}
use Rattle.desk_units.specs.declared.numbers.Leg.{Leg}
use Rattle.near_untouched.specs.Again.{leads_back}
use Rattle.near_untouched.proofs.again.lead_nowhere.Goals as goal

pub loop-back-preserved : goal.loop-back-preserved
loop-back-preserved c =
    let none : Leg = record { 0 = 0 } in
    All-more (λ (y : Leg). leads_back c.args.inst.now c.args.leg.0 y.0 ≡ false) c.args.legs.now c.loop-back.back-index none c.loop-back-test.true c.loop-back.invariant (sym c.leads_back.ensures ∙ c.if-leads_back.false)

pub returns : goal.returns
returns c = λ is.
    (subst (All (λ (y : Leg). leads_back c.args.inst.now c.args.leg.0 y.0 ≡ false)) (take_all c.loop-back.back-index c.args.legs.now (omega arith)) c.loop-back.invariant)

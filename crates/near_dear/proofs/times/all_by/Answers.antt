use Rattle.std.proofs.Common.{List, subst, arith}
use Rattle.std.specs.List.{All}
use Rattle.std.proofs.lemmas.List.{take_all}
use Rattle.desk_units.specs.declared.numbers.Leg.{Leg}
use Rattle.near_dear.specs.Times.{IsBy}
use Rattle.near_dear.proofs.ExchangeTableLaws.{all-more, by-later}
use Rattle.near_dear.proofs.times.all_by.Goals as goal

pub loop-leg-preserved : goal.loop-leg-preserved
loop-leg-preserved c =
    let I = c.args.inst.now in
    let P = c.args.plan.now in
    let moments = c.args.moments.now in
    let was = c.loop-leg.by in
    let is = c.one_by-by.result in
    let later = c.one_by-by.ensures.from in
    record {
      from = (let from = c.loop-leg.invariant.from in omega (arith, from, later));
      legs = all-more (λ (leg : Leg). IsBy I P moments was leg.0) (λ (leg : Leg). IsBy I P moments is leg.0) c.args.legs.now c.loop-leg.leg-index (record { 0 = 0 }) c.loop-leg-test.true
          (λ leg one. by-later I P moments was is leg.0 later one) c.loop-leg.invariant.legs c.one_by-by.ensures.leg;
    }

pub returns-clause-legs : goal.returns-clause-legs
returns-clause-legs c =
    subst (λ (xs : List Leg). All (λ (leg : Leg). IsBy c.args.inst.now c.args.plan.now c.args.moments.now c.loop-leg.by leg.0) xs) (take_all c.loop-leg.leg-index c.args.legs.now c.loop-leg-test.false) c.loop-leg.invariant.legs

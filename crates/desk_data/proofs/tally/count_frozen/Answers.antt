use Rattle.std.proofs.Common.{sym, ◌∙◌, arith}
use Rattle.desk_units.specs.declared.numbers.Leg.{Leg}
use Rattle.desk_units.specs.declared.numbers.Cabin.{Cabin}
use Rattle.desk_units.specs.declared.numbers.Cabin.TheVariants.{F}
use Rattle.desk_data.proofs.TallySteps.{front_is}
use Rattle.desk_data.proofs.tally.count_frozen.Goals as goal

pub returns-then-not-is_frozen-clause-count : goal.returns-then-not-is_frozen-clause-count
returns-then-not-is_frozen-clause-count c =
    let none : Leg × Cabin = (record { 0 = 0 }, F) in
    front_is c.args.frozen.now c.args.path.now c.loop-place.place none (omega arith) (λ k lt. c.loop-place.invariant k none lt) (λ lt. sym c.is_frozen.ensures ∙ c.if-not-is_frozen.true)

pub returns-clause-count : goal.returns-clause-count
returns-clause-count c =
    let none : Leg × Cabin = (record { 0 = 0 }, F) in
    front_is c.args.frozen.now c.args.path.now _ none (omega arith) (λ k lt. c.loop-place.invariant k none (omega (arith, c.loop-place-test.false))) (λ lt. absurd (omega arith))

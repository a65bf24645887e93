use Rattle.std.proofs.Common.{◌≡◌, sym, ap, ◌∙◌, arith}
use Rattle.desk_units.specs.declared.numbers.Leg.{Leg}
use Rattle.desk_units.specs.declared.numbers.Cabin.{Cabin}
use Rattle.desk_units.specs.declared.numbers.Cabin.TheVariants.{F}
use Rattle.desk_data.specs.Situation.{res_at}
use Rattle.desk_data.proofs.BegunLemmas.{begun_is}
use Rattle.desk_data.proofs.instance.Instance.begun.Goals as goal

pub returns-then-not-has_begun-clause-begun : goal.returns-then-not-has_begun-clause-begun
returns-then-not-has_begun-clause-begun c =
    let none : Leg × Cabin = (record { 0 = 0 }, F) in
    let same : c.as_slice-path.result.now ≡ (res_at c.args.self.now c.args.res.0).path = c.as_slice-path.ensures ∙ ap (λ r. r.path) c.res.ensures.row in
    begun_is c.args.self.now c.args.res.0 _ c.as_slice-path.result.now none same (omega arith) (λ k lt. c.loop-place.invariant k none lt) (λ lt. sym c.has_begun.ensures ∙ c.if-not-has_begun.true)

pub returns-clause-begun : goal.returns-clause-begun
returns-clause-begun c =
    let none : Leg × Cabin = (record { 0 = 0 }, F) in
    let same : c.as_slice-path.result.now ≡ (res_at c.args.self.now c.args.res.0).path = c.as_slice-path.ensures ∙ ap (λ r. r.path) c.res.ensures.row in
    begun_is c.args.self.now c.args.res.0 _ c.as_slice-path.result.now none same (omega arith) (λ k lt. c.loop-place.invariant k none (omega (arith, c.loop-place-test.false))) (λ lt. absurd (omega arith))

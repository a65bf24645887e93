use Rattle.std.proofs.Common.{take, subst, arith}
use Rattle.std.proofs.lemmas.List.{take_all}
use Rattle.std.proofs.lemmas.List.Elements.{All-more}
use Rattle.desk_units.specs.declared.numbers.Leg.{Leg}
use Rattle.desk_units.specs.declared.numbers.Cabin.{Cabin}
use Rattle.desk_data.specs.Paths.{no_pair}
use Rattle.near_untouched.specs.Marks.{IsFlierMarked}
use Rattle.near_untouched.specs.Carried.{AreFliersMarked}
use Rattle.near_untouched.proofs.CarriedLaws.{fliers-kept}
use Rattle.near_untouched.proofs.carried.mark_fliers.Goals as goal

pub loop-pair-preserved : goal.loop-pair-preserved
unfolding no_pair
loop-pair-preserved c =
    let P = c.args.plan.now in
    let path = c.args.path.now in
    let i = c.loop-pair.pair-index in
    let old = c.loop-pair.marks.items in
    let new = c.mark_flier.new.planes.items in
    let kept = c.mark_flier.ensures.kept in
    record {
      marks = c.mark_flier.ensures.planes;
      kept = λ k is. kept k (c.loop-pair.invariant.kept k is);
      marked = All-more (λ (pair : Leg × Cabin). IsFlierMarked P new pair.0.0) path i no_pair c.loop-pair-test.true
          (fliers-kept P old new (take i path) kept c.loop-pair.invariant.marked)
          c.mark_flier.ensures.marked;
    }

pub returns-clause-marked : goal.returns-clause-marked
returns-clause-marked c =
    subst (AreFliersMarked c.args.plan.now c.loop-pair.marks.items) (take_all c.loop-pair.pair-index c.args.path.now (omega arith)) c.loop-pair.invariant.marked

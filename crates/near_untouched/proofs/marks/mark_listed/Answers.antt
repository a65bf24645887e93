use Rattle.std.proofs.Common.{◌≡◌, ◌<◌, true, false, length, get_or, set, take, subst, ◌∙◌, arith}
use Rattle.std.specs.List.{All}
use Rattle.std.proofs.lemmas.List.{take_all, length-set, get_or-set_same}
use Rattle.std.proofs.lemmas.List.Elements.{All-more}
use Rattle.desk_units.specs.declared.numbers.Leg.{Leg}
use Rattle.near_untouched.specs.Marks.{is_marked}
use Rattle.near_untouched.proofs.MarkLaws.{mark-kept}
use Rattle.near_untouched.proofs.marks.mark_listed.Goals as goal

pub loop-leg-preserved : goal.loop-leg-preserved
loop-leg-preserved c =
    let legs = c.args.legs.now in
    let i = c.loop-leg.leg-index in
    let none : Leg = record { 0 = 0 } in
    let x = (get_or legs i none).0 in
    let old = c.loop-leg.marks.items in
    let new = set old x true in
    let same = c.loop-leg.invariant.marks in
    let short = c.requires i none c.loop-leg-test.true in
    let within : x < length old = omega (arith, short, same) in
    record {
      marks = length-set old x true ∙ same;
      kept = λ k is. mark-kept old x k (c.loop-leg.invariant.kept k is);
      marked = All-more (λ (y : Leg). is_marked new y.0 ≡ true) legs i none c.loop-leg-test.true
          (λ k d lt. mark-kept old x (get_or (take i legs) k d).0 (c.loop-leg.invariant.marked k d lt))
          (get_or-set_same old x true false within);
    }

pub returns-clause-marked : goal.returns-clause-marked
returns-clause-marked c =
    subst (All (λ (y : Leg). is_marked c.loop-leg.marks.items y.0 ≡ true)) (take_all c.loop-leg.leg-index c.args.legs.now (omega arith)) c.loop-leg.invariant.marked

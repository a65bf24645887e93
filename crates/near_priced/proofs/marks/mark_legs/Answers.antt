use Rattle.std.proofs.Common.{◌≡◌, ◌<◌, true, false, length, get_or, set, take, subst, ◌∙◌, arith}
use Rattle.std.proofs.lemmas.List.{take_all, length-set, get_or-set_same}
use Rattle.std.proofs.lemmas.List.Elements.{All-more}
use Rattle.desk_units.specs.declared.numbers.Leg.{Leg}
use Rattle.desk_units.specs.declared.numbers.Cabin.{Cabin}
use Rattle.desk_data.specs.Paths.{no_pair}
use Rattle.near_priced.specs.Payers.{AreLegsMarked, is_marked}
use Rattle.near_priced.proofs.PayerLaws.{mark-kept, legs-kept}
use Rattle.near_priced.proofs.marks.mark_legs.Goals as goal

pub loop-pair-preserved : goal.loop-pair-preserved
unfolding no_pair
loop-pair-preserved c =
    let path = c.args.path.now in
    let i = c.loop-pair.pair-index in
    let pair = get_or path i no_pair in
    let old = c.loop-pair.booked.items in
    let new = set old pair.0.0 true in
    let same = c.loop-pair.invariant.booked in
    let short = c.requires i no_pair c.loop-pair-test.true in
    let within : pair.0.0 < length old = omega (arith, short, same) in
    record {
      booked = length-set old pair.0.0 true ∙ same;
      kept = λ k is. mark-kept old pair.0.0 k (c.loop-pair.invariant.kept k is);
      marked = All-more (λ (q : Leg × Cabin). is_marked new q.0.0 ≡ true) path i no_pair c.loop-pair-test.true
          (legs-kept old new (take i path) (mark-kept old pair.0.0) c.loop-pair.invariant.marked)
          (get_or-set_same old pair.0.0 true false within);
    }

pub returns-clause-marked : goal.returns-clause-marked
returns-clause-marked c =
    subst (AreLegsMarked c.loop-pair.booked.items) (take_all c.loop-pair.pair-index c.args.path.now (omega arith)) c.loop-pair.invariant.marked

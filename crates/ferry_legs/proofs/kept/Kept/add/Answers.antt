use Rattle.std.proofs.Common.{List, subst, sym}
use Rattle.added_legs.specs.declared.added.Added.{Added}
use Rattle.added_legs.specs.Merged.{AreAdded}
use Rattle.added_legs.specs.Ferried.{with_added}
use Rattle.ferry_legs.specs.Times.{IsTimesOf}
use Rattle.ferry_legs.proofs.ListLaws.{one_more_added, one_more_taken}
use Rattle.ferry_legs.proofs.KeptLaws.{marked}
use Rattle.ferry_legs.proofs.kept.Kept.add.Goals as goal

pub add-requires : goal.add-requires
add-requires g c =
    let new = c.requires.1.1 in
    (c.requires.0, (c.requires.1.0.prices, (new.added, (new.free, new.time))))

pub add-requires-2-clause-times : goal.add-requires-2-clause-times
add-requires-2-clause-times g c =
    let I = c.args.inst.now in
    let P = c.args.plan.now in
    let kept = c.requires.1.0 in
    subst (λ (B : List Added). IsTimesOf I P B c.args.self.now.times) (sym kept.times.added) kept.times

pub add-requires-2-clause-added : goal.add-requires-2-clause-added
add-requires-2-clause-added g c =
    let I = c.args.inst.now in
    let P = c.args.plan.now in
    let a = c.args.leg in
    let kept = c.requires.1.0 in
    subst (λ (B : List Added). AreAdded I P (with_added B a)) (sym kept.times.added)
    (one_more_added I P g.added a kept.added c.requires.1.1.added c.requires.1.1.free)

pub returns-clause-kept : goal.returns-clause-kept
returns-clause-kept g c =
    let I = c.args.inst.now in
    let P = c.args.plan.now in
    let A = g.added in
    let a = c.args.leg in
    let kept = c.requires.1.0 in
    let new = c.requires.1.1 in
    record {
      taken = one_more_taken I A a c.args.self.now.taken.items new.added.aircraft kept.taken;
      prices = c.add.ensures;
      times = subst (λ (B : List Added). IsTimesOf I P (with_added B a) c.add-2.new.self) kept.times.added c.add-2.ensures;
      added = one_more_added I P A a kept.added new.added new.free;
      sound = new.sound;
    }

pub returns-clause-fewer : goal.returns-clause-fewer
returns-clause-fewer g c = marked c.args.inst.now c.args.plan.now g.added c.args.leg c.args.self.now c.requires.1.0 c.requires.1.1

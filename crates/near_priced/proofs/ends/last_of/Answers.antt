use Rattle.std.proofs.Common.{ℕ, List, take, sym, ap, subst, arith}
use Rattle.std.proofs.lemmas.List.{take_all}
use Rattle.desk_units.specs.declared.numbers.Leg.{Leg}
use Rattle.desk_data.specs.Situation.{legs_of}
use Rattle.plan_reads.specs.AfterLeg.{leg_in}
use Rattle.near_draft.specs.Drafts.{plan_of}
use Rattle.near_draft.specs.Legs.{numbers_of}
use Rattle.near_priced.specs.Ends.{IsLastAmong}
use Rattle.near_priced.proofs.EndLaws.{leg-flown, numbers-more, last-of-all}
use Rattle.near_priced.proofs.ends.last_of.Goals as goal

pub later_of-last-requires-clause-leg : goal.later_of-last-requires-clause-leg
later_of-last-requires-clause-leg c =
    let both = leg-flown c.args.inst.now (plan_of c.args.draft.now) c.args.plane.0 c.args.legs.now c.loop-leg.leg-index c.loop-leg-test.true c.requires.legs in
    let lt = both.0 in
    let rows = c.base.ensures.plan.legs in
    let same = ap legs_of c.requires.day in
    omega (arith, lt, rows, same)

pub later_of-last-requires-clause-flown : goal.later_of-last-requires-clause-flown
later_of-last-requires-clause-flown c =
    (leg-flown c.args.inst.now (plan_of c.args.draft.now) c.args.plane.0 c.args.legs.now c.loop-leg.leg-index c.loop-leg-test.true c.requires.legs).1

pub loop-leg-preserved : goal.loop-leg-preserved
loop-leg-preserved c =
    let Q = plan_of c.args.draft.now in
    let legs = c.args.legs.now in
    let i = c.loop-leg.leg-index in
    let step = rw c.window.ensures at c.later_of-last.ensures.last in
    record {
      last = subst (λ (xs : List ℕ). IsLastAmong Q c.args.plane.0 c.args.inst.now.parts.to.0 xs (leg_in c.later_of-last.result)) (sym (numbers-more legs i c.loop-leg-test.true))
          (step (numbers_of (take i legs)) c.loop-leg.invariant.last);
      departs = c.later_of-last.ensures.departs;
    }

pub returns : goal.returns
returns c =
    let I = c.args.inst.now in
    let Q = plan_of c.args.draft.now in
    let p = c.args.plane.0 in
    let at = I.parts.to.0 in
    let legs = c.args.legs.now in
    let last = leg_in c.loop-leg.last in
    rw c.leg_in.ensures (last-of-all I Q p at (numbers_of legs) last c.requires.legs
    (subst (λ (xs : List Leg). IsLastAmong Q p at (numbers_of xs) last) (take_all c.loop-leg.leg-index legs c.loop-leg-test.false) c.loop-leg.invariant.last))

use Rattle.std.proofs.Common.{◌≡◌, ◌<◌, ◌≤◌, true, false, refl, sym, subst, ◌∙◌, arith}
use Rattle.std.specs.Prelude.{Some}
use Rattle.desk_rules.specs.Rotations.{dep, precedes}
use Rattle.plan_reads.specs.AfterLeg.{leg_in}
use Rattle.near_draft.specs.Drafts.{plan_of}
use Rattle.near_priced.specs.Ends.{IsLastAmong}
use Rattle.near_priced.proofs.EndLaws.{last-stays-late, last-stays, last-first, last-comes, precedes-is, late, soon}
use Rattle.near_priced.proofs.ends.later_of.Goals as goal

pub returns-then-departs-at-clause-last : goal.returns-then-departs-at-clause-last
returns-then-departs-at-clause-last c = λ legs is.
    (let Q = plan_of c.args.draft.now in
    let p = c.args._plane.0 in
    let at = c.args.at.0 in
    let x = c.args.leg.0 in
    let le : at ≤ dep Q x = omega (arith, c.if-departs-at.true, c.departure-departs.ensures.departure) in
    last-stays-late Q p at legs x (leg_in c.args.last) (late Q p at x le) is)

pub returns-then-is_earlier-clause-last : goal.returns-then-is_earlier-clause-last
returns-then-is_earlier-clause-last c = λ legs is.
    (let Q = plan_of c.args.draft.now in
    let p = c.args._plane.0 in
    let at = c.args.at.0 in
    let x = c.args.leg.0 in
    let other = c.in-Some.other in
    let lt : dep Q x < at = omega (arith, c.if-departs-at.false, c.departure-departs.ensures.departure) in
    let was : IsLastAmong Q p at legs (Some other.leg) = subst (λ last. IsLastAmong Q p at legs (leg_in last)) c.in-Some.is is in
    let departs : other.dep.0 ≡ dep Q other.leg.0 = c.requires.departs other c.in-Some.is in
    let later : precedes Q other.leg.0 x ≡ true =
    precedes-is Q p at legs other x was c.requires.flown departs c.departure-departs.ensures.departure ∙ sym c.is_earlier.ensures ∙ c.if-is_earlier.true in
    last-comes Q p at legs x other.leg c.args.leg refl (soon Q p at x c.requires.flown lt) later was)

pub returns-else-is_earlier-clause-last : goal.returns-else-is_earlier-clause-last
returns-else-is_earlier-clause-last c = λ legs is.
    (let Q = plan_of c.args.draft.now in
    let p = c.args._plane.0 in
    let at = c.args.at.0 in
    let x = c.args.leg.0 in
    let other = c.in-Some.other in
    let was : IsLastAmong Q p at legs (Some other.leg) = subst (λ last. IsLastAmong Q p at legs (leg_in last)) c.in-Some.is is in
    let departs : other.dep.0 ≡ dep Q other.leg.0 = c.requires.departs other c.in-Some.is in
    let no_later : precedes Q other.leg.0 x ≡ false =
    precedes-is Q p at legs other x was c.requires.flown departs c.departure-departs.ensures.departure ∙ sym c.is_earlier.ensures ∙ c.if-is_earlier.false in
    last-stays Q p at legs x other.leg no_later was)

pub returns-in-None-clause-last : goal.returns-in-None-clause-last
returns-in-None-clause-last c = λ legs is.
    (let Q = plan_of c.args.draft.now in
    let p = c.args._plane.0 in
    let at = c.args.at.0 in
    let x = c.args.leg.0 in
    let lt : dep Q x < at = omega (arith, c.if-departs-at.false, c.departure-departs.ensures.departure) in
    last-first Q p at legs x c.args.leg refl (soon Q p at x c.requires.flown lt) (subst (λ last. IsLastAmong Q p at legs (leg_in last)) c.in-None.is is))

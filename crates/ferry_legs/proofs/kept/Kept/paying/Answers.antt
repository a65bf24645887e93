use Rattle.std.proofs.Common.{◌≡◌, true, sym, ◌∙◌}
use Rattle.std.specs.Prelude.{Some}
use Rattle.added_legs.specs.Ferried.{added_leg, candidate, may_go}
use Rattle.ferry_legs.proofs.NextLaws.{has_none, no_way, pays, never_pays, candidate_is_new}
use Rattle.ferry_legs.proofs.KeptLaws.{goes_there, departs_then, departs_not}
use Rattle.ferry_legs.proofs.kept.Kept.paying.Goals as goal

pub returns-then-not-has_way-clause-leg : goal.returns-then-not-has_way-clause-leg
returns-then-not-has_way-clause-leg g c =
    sym (no_way c.args.inst.now c.args.plan.now g.added c.args.plane.0 c.args.dest.0 (sym c.has_way.ensures ∙ c.if-not-has_way.true))

pub lowers-lower-requires : goal.lowers-lower-requires
lowers-lower-requires g c =
    let kept = c.requires.1.0 in
    let plane = c.requires.1.1.0 in
    let none = has_none c.args.inst.now g.added c.args.self.now.taken.items c.args.plane.0 kept.taken plane c.requires.1.1.1.1.0 in
    (c.requires.0, (kept.prices, (plane, (c.requires.1.1.1.0, (c.requires.1.1.1.1.1, none)))))

pub returns-then-not-lower-clause-leg : goal.returns-then-not-lower-clause-leg
returns-then-not-lower-clause-leg g c =
    sym (never_pays c.args.inst.now c.args.plan.now g.added c.args.plane.0 c.args.dest.0 (λ at time. sym (c.lowers-lower.ensures.exact at time) ∙ c.if-not-lower.true))

pub returns-in-None-clause-leg : goal.returns-in-None-clause-leg
returns-in-None-clause-leg g c =
    sym (departs_not c.args.inst.now c.args.plan.now g.added c.args.self.now c.args.plane.0 c.args.dest.0 c.requires.1.0 c.in-None.ensures.exact)

pub returns-in-Some-clause-leg : goal.returns-in-Some-clause-leg
returns-in-Some-clause-leg g c =
    let I = c.args.inst.now in
    let P = c.args.plan.now in
    let A = g.added in
    let p = c.args.plane.0 in
    let d = c.args.dest.0 in
    let a = added_leg p d c.in-Some.dep in
    let plane = c.requires.1.1.0 in
    let air = c.requires.1.1.1.0 in
    let free = c.requires.1.1.1.1.0 in
    let dest = c.requires.1.1.1.1.1 in
    let found : candidate I P A p d ≡ Some a = departs_then I P A c.args.self.now p d c.in-Some.dep c.requires.1.0 c.in-Some.ensures.exact in
    let there : may_go I P A p d ≡ true = goes_there I P A c.args.self.now p d c.requires.1.0 plane air free (sym c.has_way.ensures ∙ c.if-not-has_way.false) in
    let new = candidate_is_new I P A p d a c.parts-rows.ensures.valid plane dest there found in
    sym (pays I P A p d a found (sym (c.lowers-lower.ensures.exact c.in-Some.dep new.time) ∙ c.if-not-lower.false))

pub returns-in-Some-clause-ranges : goal.returns-in-Some-clause-ranges
returns-in-Some-clause-ranges g c = λ x is.
    let I = c.args.inst.now in
    let P = c.args.plan.now in
    let A = g.added in
    let p = c.args.plane.0 in
    let d = c.args.dest.0 in
    let plane = c.requires.1.1.0 in
    let air = c.requires.1.1.1.0 in
    let free = c.requires.1.1.1.1.0 in
    let dest = c.requires.1.1.1.1.1 in
    let found : candidate I P A p d ≡ Some (added_leg p d c.in-Some.dep) = departs_then I P A c.args.self.now p d c.in-Some.dep c.requires.1.0 c.in-Some.ensures.exact in
    let there : may_go I P A p d ≡ true = goes_there I P A c.args.self.now p d c.requires.1.0 plane air free (sym c.has_way.ensures ∙ c.if-not-has_way.false) in
    candidate_is_new I P A p d x c.parts-rows.ensures.valid plane dest there (found ∙ is)

use Rattle.std.proofs.Common.{sym, subst}
use Rattle.near_draft.specs.Drafts.{Drafted, drafted, plan_of}
use Rattle.near_draft.specs.Kept.{AreKept}
use Rattle.near_draft.specs.Legs.{AreLegsOf, numbers_of}
use Rattle.near_draft.proofs.LegLaws.{numbers-within}
use Rattle.near_draft.proofs.draft.Draft.kept.Goals as goal

pub returns-clause-legs : goal.returns-clause-legs
returns-clause-legs c = λ legs is.
    let e = c.self.inside in
    let I = e.base.now.inst in
    let Q = drafted e.base.now.rows e.changes.items in
    subst (λ (D : Drafted). AreLegsOf D.inst (plan_of D) c.args.plane.0 (numbers_of legs.now)) c.self.view_is
    (c.kept_legs.ensures I Q (subst (AreKept I Q) (sym c.as_slice.ensures.value) c.self.invariant.kept) legs is)

pub returns-clause-within : goal.returns-clause-within
returns-clause-within c = λ legs is.
    let D = c.args.self.now in
    numbers-within D.inst (plan_of D) c.args.plane.0 legs.now (returns-clause-legs c legs is).flown

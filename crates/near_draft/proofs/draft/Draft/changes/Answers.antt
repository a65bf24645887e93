use Rattle.std.proofs.Common.{◌<◌, List, sym, ap, subst}
use Rattle.std.specs.List.{All}
use Rattle.desk_data.specs.Situation.{Situation, legs_of}
use Rattle.near_draft.specs.declared.change.Change.{Change}
use Rattle.near_draft.specs.Drafts.{AreChanges, Drafted}
use Rattle.near_draft.proofs.ChangeLaws.{changes-within}
use Rattle.near_draft.proofs.draft.Draft.changes.Goals as goal

pub returns-clause-within : goal.returns-clause-within
returns-clause-within c =
    let e = c.self.inside in
    subst (λ (changes : List Change). All (λ (change : Change). change.leg.0 < legs_of c.args.self.now.inst) changes) (sym c.as_slice.ensures.value)
    (subst (λ (I : Situation). All (λ (change : Change). change.leg.0 < legs_of I) e.changes.items) (ap (λ (D : Drafted). D.inst) c.self.view_is)
    (changes-within e.base.now.inst e.base.now.rows e.changes.items c.self.invariant.are))

pub returns-clause-are : goal.returns-clause-are
returns-clause-are c =
    let e = c.self.inside in
    subst (AreChanges c.args.self.now.inst c.args.self.now.rows) (sym c.as_slice.ensures.value)
    (subst (λ (D : Drafted). AreChanges D.inst D.rows e.changes.items) c.self.view_is c.self.invariant.are)

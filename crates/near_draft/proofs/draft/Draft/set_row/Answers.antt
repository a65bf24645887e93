use Rattle.std.proofs.Common.{◌≡◌, ◌<◌, List, [], ◌∷◌, ◌++◌, ◌%◌, true, set, rules, arith, sym, ap, subst, ◌∙◌}
use Rattle.desk_data.specs.Situation.{legs_of, planes_of}
use Rattle.desk_data.specs.PlanRows.{PlanRows, row_at}
use Rattle.desk_data.specs.Valid.{IsRowOf}
use Rattle.step_laws.proofs.SwapLaws.{with_row-own}
use Rattle.near_draft.specs.declared.change.Change.{Change}
use Rattle.near_draft.specs.Drafts.{AreChanges, Drafted, IsChange, drafted, plan_of}
use Rattle.near_draft.specs.Kept.{AreKept, AreMarked}
use Rattle.near_draft.proofs.ChangeLaws.{changes-push, drafted-push}
use Rattle.near_draft.proofs.MarkLaws.{marked-push}
use Rattle.near_draft.proofs.draft.Draft.set_row.Goals as goal

pub invariant_of-self-then-ne : goal.invariant_of-self-then-ne
invariant_of-self-then-ne c =
    let e = c.self.inside in
    let I = e.base.now.inst in
    let P = e.base.now.rows in
    let changes = e.changes.items in
    let change : Change = record { leg = c.args.leg; was = c.row_after-was.result; row = c.args.row } in
    let is : IsChange I (drafted P changes) change = record {
      leg = subst (λ (D : Drafted). c.args.leg.0 < legs_of D.inst) (sym c.self.view_is) c.requires.leg;
      row = subst (λ (D : Drafted). IsRowOf (planes_of D.inst) c.args.row) (sym c.self.view_is) c.requires.row;
      was = c.row_after-was.ensures.row ∙ ap (λ (cs : List Change). row_at (drafted P cs) c.args.leg.0) c.as_slice.ensures.value;
    } in
    let more : c.push.new.self.items ≡ changes ++ change ∷ [] = c.in_ok-push.ensures.items in
    record {
      marked = subst (λ (cs : List Change). AreMarked cs (set e.marks (c.args.leg.0 % 64) true)) (sym more) (marked-push changes e.marks change (omega arith) c.self.invariant.marked);
      are = subst (AreChanges I P) (sym more) (changes-push I P changes change c.self.invariant.are is);
      kept = subst (λ (Q : PlanRows). AreKept I Q c.let_go.new.lists.items) (sym (ap (drafted P) more ∙ drafted-push P changes change))
          (c.let_go.ensures I (drafted P changes) c.args.leg.0 is.was c.self.invariant.kept);
    }

pub returns-else-ne-clause-plan : goal.returns-else-ne-clause-plan
returns-else-ne-clause-plan c =
    let e = c.self.inside in
    let there : c.row_after-was.result ≡ row_at (plan_of c.args.self.now) c.args.leg.0 =
    c.row_after-was.ensures.row ∙ ap (λ (cs : List Change). row_at (drafted e.base.now.rows cs) c.args.leg.0) c.as_slice.ensures.value ∙ ap (λ (D : Drafted). row_at (plan_of D) c.args.leg.0) c.self.view_is in
    let same : c.row_after-was.result ≡ c.args.row = search rules in
    sym (with_row-own (plan_of c.args.self.now) c.args.leg.0 c.args.row (sym same ∙ there))

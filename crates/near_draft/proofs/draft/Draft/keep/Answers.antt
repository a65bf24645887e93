use Rattle.std.proofs.Common.{sym, subst}
use Rattle.near_draft.specs.declared.kept.PlaneLegs.{PlaneLegs}
use Rattle.near_draft.specs.Drafts.{Drafted, drafted, plan_of}
use Rattle.near_draft.specs.Kept.{AreKept}
use Rattle.near_draft.specs.Legs.{AreLegsOf, numbers_of}
use Rattle.near_draft.proofs.KeptLaws.{kept-more}
use Rattle.near_draft.proofs.draft.Draft.keep.Goals as goal

pub invariant_of-self-2 : goal.invariant_of-self-2
invariant_of-self-2 c =
    let e = c.self.inside in
    let I = e.base.now.inst in
    let Q = drafted e.base.now.rows e.changes.items in
    let list : PlaneLegs = record { plane = c.args.plane; legs = c.args.legs } in
    record {
      marked = c.self.invariant.marked;
      are = c.self.invariant.are;
      kept = subst (AreKept I Q) (sym c.in_ok-push.ensures.items) (kept-more I Q e.lists.items list c.self.invariant.kept
          (subst (λ (D : Drafted). AreLegsOf D.inst (plan_of D) c.args.plane.0 (numbers_of c.args.legs.items)) (sym c.self.view_is) c.requires));
    }

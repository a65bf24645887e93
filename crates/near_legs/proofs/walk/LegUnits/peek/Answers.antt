use Rattle.std.proofs.Common.{sym, subst, ◌∙◌}
use Rattle.std.specs.Bool.{IsTrue}
use Rattle.std.proofs.lemmas.Bool.{true≢false}
use Rattle.near_legs.proofs.WalkLaws.{next-is}
use Rattle.near_legs.proofs.walk.LegUnits.peek.Goals as goal
use Rattle.near_legs.proofs.walk.LegUnits.peek.Goals.{then-loop-self-test+else-not-is_at_end, else-loop-self-test}

pub returns-clause-ok : goal.returns-clause-ok
returns-clause-ok c =
    next-is c.args.inst.now c.args.plan.now c.loop-self.self c.first.result c.loop-self.invariant.walk c.first.ensures
    (elim c.loop-self-test.branch [
      | then-loop-self-test+else-not-is_at_end w ↦ λ empty. sym w.is_at_end.ensures ∙ w.if-not-is_at_end.false
      | else-loop-self-test w ↦ λ empty. absurd (true≢false (sym (subst IsTrue w.loop-self-test.false (c.is_empty.ensures.1 empty))))
    ])

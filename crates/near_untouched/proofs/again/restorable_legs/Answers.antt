use Rattle.std.proofs.Common.{sym, ap, ◌∙◌}
use Rattle.near_untouched.proofs.AgainLaws.{restorable-skip, restorable-more}
use Rattle.near_untouched.proofs.again.restorable_legs.Goals as goal
use Rattle.near_untouched.proofs.again.restorable_legs.Goals.{then-is_restorable+in_ok-push, else-is_restorable}

pub loop-x-preserved : goal.loop-x-preserved
loop-x-preserved c =
    let I = c.args.inst.now in
    let P = c.args.plan.now in
    let x = c.loop-x.x in
    let legs = c.loop-x.legs.items in
    elim c.if-is_restorable.branch [
      | then-is_restorable+in_ok-push w ↦
          rw (ap (λ v. v.items) w.legs-is ∙ w.in_ok-push.ensures.items) (restorable-more I P x legs c.loop-x.invariant (sym c.is_restorable.ensures ∙ w.if-is_restorable.true))
      | else-is_restorable w ↦
          rw (ap (λ v. v.items) w.legs-is) (restorable-skip I P x legs c.loop-x.invariant (sym c.is_restorable.ensures ∙ w.if-is_restorable.false))
    ]

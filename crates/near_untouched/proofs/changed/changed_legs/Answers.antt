use Rattle.std.proofs.Common.{ap, ◌∙◌}
use Rattle.near_untouched.proofs.MarkLaws.{changed-same, changed-more}
use Rattle.near_untouched.proofs.changed.changed_legs.Goals as goal
use Rattle.near_untouched.proofs.changed.changed_legs.Goals.{then-not-has_same_row+in_ok-push, else-not-has_same_row}

pub loop-x-preserved : goal.loop-x-preserved
loop-x-preserved c =
    let P = c.args.plans.now.earlier.now in
    let Q = c.args.plans.now.later.now in
    let x = c.loop-x.x in
    let legs = c.loop-x.legs.items in
    elim c.if-not-has_same_row.branch [
      | then-not-has_same_row+in_ok-push w ↦
          rw (ap (λ v. v.items) w.legs-is ∙ w.in_ok-push.ensures.items) (changed-more P Q x legs c.loop-x.invariant)
      | else-not-has_same_row w ↦
          rw (ap (λ v. v.items) w.legs-is) (changed-same P Q x legs c.loop-x.invariant (c.has_same_row.ensures w.if-not-has_same_row.false))
    ]

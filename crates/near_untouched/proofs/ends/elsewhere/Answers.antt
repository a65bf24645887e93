use Rattle.std.proofs.Common.{rules, ap, ◌∙◌}
use Rattle.near_untouched.proofs.HandLaws.{elsewhere-same, elsewhere-more}
use Rattle.near_untouched.proofs.ends.elsewhere.Goals as goal
use Rattle.near_untouched.proofs.ends.elsewhere.Goals.{then-ne+in_ok-push, else-ne}

pub loop-p-preserved : goal.loop-p-preserved
loop-p-preserved c =
    let was = c.args.was.now in
    let now = c.args.now.now in
    let p = c.loop-p.p in
    let planes = c.loop-p.planes.items in
    elim c.if-ne.branch [
      | then-ne+in_ok-push w ↦
          rw (ap (λ v. v.items) w.planes-is ∙ w.in_ok-push.ensures.items) (elsewhere-more p was now planes c.loop-p.invariant)
      | else-ne w ↦
          rw (ap (λ v. v.items) w.planes-is) (elsewhere-same p was now planes c.loop-p.invariant (search rules))
    ]

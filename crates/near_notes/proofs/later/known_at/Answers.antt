use Rattle.near_notes.proofs.KnownLaws.{known-more}
use Rattle.near_notes.proofs.later.known_at.Goals as goal

pub loop-r-preserved : goal.loop-r-preserved
loop-r-preserved c =
    rw c.in_ok-push.ensures.items
    (known-more c.args.plans.now.inst.now c.args.plans.now.plan.now c.loop-r.r c.known_of.result c.loop-r.known.items c.loop-r.invariant c.known_of.ensures)

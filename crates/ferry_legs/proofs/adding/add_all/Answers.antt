use Rattle.std.proofs.Common.{◌<◌, List, refl, sym, ap, subst, ◌∙◌}
use Rattle.std.specs.Prelude.{Bool, sum_by}
use Rattle.added_legs.specs.Ferried.{next_added}
use Rattle.ferry_legs.specs.Ferried.{added_of}
use Rattle.ferry_legs.proofs.ListLaws.{fewer_free, is_free}
use Rattle.ferry_legs.proofs.KeptLaws.{kept_itself, new_of}
use Rattle.ferry_legs.proofs.adding.add_all.Goals as goal

pub next-requires : goal.next-requires
next-requires c =
    (c.requires.plan, kept_itself c.args.inst.now c.args.plan.now (added_of c.loop-leg.list.items) c.loop-leg.kept c.loop-leg.invariant.kept)

pub add-requires-clause-next : goal.add-requires-clause-next
add-requires-clause-next c =
    ap (next_added c.args.inst.now c.args.plan.now) (sym c.loop-leg.invariant.kept.times.added) ∙ sym c.in-Some.ensures.next

pub add-requires-clause-leg : goal.add-requires-clause-leg
add-requires-clause-leg c =
    new_of c.args.inst.now c.args.plan.now (added_of c.loop-leg.list.items) c.loop-leg.kept c.in-Some.leg c.loop-leg.invariant.kept (c.in-Some.ensures.ranges c.in-Some.leg refl)

pub loop-leg-smaller : goal.loop-leg-smaller
loop-leg-smaller c =
    let marked = c.in_ok-add.ensures.fewer in
    let taken = c.loop-leg.kept.taken.items in
    subst (λ (t : List Bool). sum_by is_free t < sum_by is_free taken) (sym marked.marked)
    (fewer_free taken c.in-Some.leg.plane.0 marked.within marked.free)

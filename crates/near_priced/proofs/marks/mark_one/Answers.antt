use Rattle.std.proofs.Common.{ap, ◌∙◌}
use Rattle.near_priced.proofs.PayerLaws.{marked-more}
use Rattle.near_priced.proofs.marks.mark_one.Goals as goal

pub returns : goal.returns
returns c =
    let I = c.args.inst.now in
    let P = c.args.plan.now in
    let r = c.args.res.0 in
    let groups = c.groups.ensures.groups in
    let path = c.as_slice.ensures ∙ ap (λ row. row.path) c.res.ensures.row in
    marked-more I P c.args.on.now.items c.args.booked.now.items c.mark_groups.new.on.items c.mark_legs.new.booked.items r c.requires.marked
    c.mark_groups.ensures.on
    (c.mark_legs.ensures.booked ∙ c.requires.marked.legs)
    c.mark_groups.ensures.kept
    c.mark_legs.ensures.kept
    (rw groups at c.mark_groups.ensures.marked)
    (rw path at c.mark_legs.ensures.marked)

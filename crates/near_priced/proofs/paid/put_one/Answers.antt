use Rattle.std.proofs.Common.{ap, ◌∙◌}
use Rattle.near_priced.proofs.TableLaws.{amounts-more}
use Rattle.near_priced.proofs.paid.put_one.Goals as goal

pub returns : goal.returns
returns c =
    let I = c.args.inst.now in
    let P = c.args.plan.now in
    let groups = c.groups.ensures.groups in
    let path = c.as_slice.ensures ∙ ap (λ row. row.path) c.res.ensures.row in
    amounts-more I P c.args.on.now.items c.args.booked.now.items c.add_groups.new.on.items c.add_legs.new.amounts.items c.cost_of-cost.result.0 c.args.res.0
    c.parts-rows.ensures.valid c.requires.plan c.requires.res c.cost_of-cost.ensures c.requires.amounts
    c.add_groups.ensures.on c.add_legs.ensures.amounts c.add_groups.ensures.kept c.add_legs.ensures.kept
    (rw groups at c.add_groups.ensures.grown)
    (rw path at c.add_legs.ensures.grown)

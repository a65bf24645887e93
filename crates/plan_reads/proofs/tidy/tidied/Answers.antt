use Rattle.plan_reads.proofs.TidyCalls.{tidied_is}
use Rattle.plan_reads.proofs.tidy.tidied.Goals as goal

pub returns : goal.returns
returns g c =
    tidied_is c.args.inst.now (g.P.ReadPlan.plan_of c.args.plan.now) c.args.res.0 c.leaving-count.result c.args.groups.now c.in_ok-made.made.items c.add_group.new.made.items c.add_staying.new.made.items
    c.in_ok-made.ensures.items c.in_ok-add_group.ensures c.in_ok-add_staying.ensures c.requires.groups c.leaving-count.ensures

use Rattle.near_legs.proofs.ChoiceLaws.{departures-are}
use Rattle.near_legs.proofs.choose.departures.Goals as goal

pub returns-clause-steps : goal.returns-clause-steps
returns-clause-steps c =
    departures-are c.args.inst.now c.args.plan.now c.args.leg c.earliest.result c.departure-departs.result c.in_ok-all.all.items c.add_later.new.all.items
    c.earliest.ensures.earliest c.departure-departs.ensures.departure c.in_ok-all.ensures c.in_ok-add_later.ensures

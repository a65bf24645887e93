use Rattle.std.specs.Arc.{arc_value}
use Rattle.desk_data.proofs.SaidLemmas.{delay_of-last_order_on_leg}
use Rattle.desk_data.proofs.instance.Instance.last_order_on_leg.Goals as goal

pub returns-clause-limit : goal.returns-clause-limit
returns-clause-limit c =
    let within = rw (← c.self.view_is) at c.requires in
    rw (c.leg.ensures, c.deref.ensures, c.self.invariant.news_kept.said.legs c.args.leg.0 within) (delay_of-last_order_on_leg (arc_value c.self.inside.parts) c.args.leg.0 (arc_value c.self.inside.news).orders.items c.self.invariant.valid.orders)

use Rattle.near_priced.proofs.PayerLaws.{costs-more}
use Rattle.near_priced.proofs.pays.reservation_costs.Goals as goal

pub loop-r-preserved : goal.loop-r-preserved
loop-r-preserved c =
    costs-more c.args.inst.now c.args.plan.now c.loop-r.costs.items c.push.new.self.items c.reservation_cost-cost.result c.loop-r.r c.loop-r.invariant c.reservation_cost-cost.ensures c.in_ok-push.ensures.items

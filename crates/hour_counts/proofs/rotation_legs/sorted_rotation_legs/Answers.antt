use Rattle.std.proofs.Common.{length}
use Rattle.hour_counts.proofs.SortedLaws.{sorted-rotation, sorted-within}
use Rattle.hour_counts.proofs.rotation_legs.sorted_rotation_legs.Goals as goal

pub returns-clause-order : goal.returns-clause-order
returns-clause-order g c = λ I p are.
    sorted-rotation I (g.P.ReadPlan.plan_of c.args.plan.now) p c.args.legs.now c.in_ok-all.all.items c.sort.new.self.items are c.in_ok-all.ensures c.in_ok-sort.ensures.permutation c.in_ok-sort.ensures.sorted

pub returns-clause-legs : goal.returns-clause-legs
returns-clause-legs g c =
    let P = g.P.ReadPlan.plan_of c.args.plan.now in
    sorted-within P (length P.rows) c.args.legs.now c.in_ok-all.all.items c.sort.new.self.items c.requires c.in_ok-all.ensures c.in_ok-sort.ensures.permutation

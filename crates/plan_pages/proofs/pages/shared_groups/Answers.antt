use Rattle.std.proofs.Common.{ap, arith}
use Rattle.desk_data.specs.PlanRows.{PlanRows}
use Rattle.plan_pages.proofs.PageLaws.{one_taken}
use Rattle.plan_pages.proofs.pages.shared_groups.Goals as goal

pub loop-r-preserved : goal.loop-r-preserved
loop-r-preserved c =
    one_taken c.args.plan.groups c.loop-r.left.groups c.taken_groups-groups.new.plan.groups c.loop-r.shared.items c.push.new.self.items
    c.taken_groups-groups.result.items c.in_ok-of.field-0 c.loop-r.r c.loop-r.invariant (omega (arith, c.loop-r-test.true, c.requires))
    c.taken_groups-groups.ensures.taken (ap (λ (P : PlanRows). P.groups) c.taken_groups-groups.ensures.left) c.in_ok-of.ensures c.in_ok-push.ensures.items

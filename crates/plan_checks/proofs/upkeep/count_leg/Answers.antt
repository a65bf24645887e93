use Rattle.std.proofs.Common.{◌≡◌, sym, ◌∙◌}
use Rattle.desk_data.specs.PlanRows.{row_at}
use Rattle.desk_data.specs.declared.row.Row.TheVariants.{Cancelled}
use Rattle.plan_checks.proofs.UpkeepLaws.{none-flown}
use Rattle.plan_checks.proofs.upkeep.count_leg.Goals as goal

pub returns-in-Cancelled : goal.returns-in-Cancelled
returns-in-Cancelled c =
    let off : row_at c.args.plan.now c.args.leg.0 ≡ Cancelled = sym c.read_row.ensures.row ∙ c.in-Cancelled.is in
    none-flown c.args.inst.now c.args.plan.now c.args.leg.0 c.args.upkeeps.now off c.requires.so_far

use Rattle.std.proofs.Common.{rules, ◌≡◌, sym, ◌∙◌}
use Rattle.desk_data.specs.PlanRows.{row_at}
use Rattle.desk_data.specs.declared.row.Row.TheVariants.{Flown}
use Rattle.plan_reads.proofs.LastLaws.{none-flown, one-flown, flown_by}
use Rattle.plan_reads.proofs.last.take_leg.Goals as goal

pub returns-in-Flown : goal.returns-in-Flown
returns-in-Flown g c =
    let I = c.args.inst.now in
    let P = g.P.ReadPlan.plan_of c.args.plan.now in
    let flown : row_at P c.args.leg.0 ≡ Flown c.in-Flown.plane c.in-Flown.dep = sym c.read_row.ensures.row ∙ c.in-Flown.is in
    let last = rw c.moment-at.ensures at c.with_leg.ensures in
    one-flown I P (g.M.Moments.moment_of c.args.moments.now I) c.in-Flown.plane.0 c.args.leg.0 c.args.lasts.now c.with_leg.result (search rules) (flown_by P c.args.leg.0 c.in-Flown.plane c.in-Flown.dep flown) c.requires.so_far last

pub returns-in-Cancelled : goal.returns-in-Cancelled
returns-in-Cancelled g c =
    none-flown c.args.inst.now (g.P.ReadPlan.plan_of c.args.plan.now) (g.M.Moments.moment_of c.args.moments.now c.args.inst.now) c.args.leg.0 c.args.lasts.now (sym c.read_row.ensures.row ∙ c.in-Cancelled.is) c.requires.so_far

use Rattle.std.proofs.Common.{◌≡◌, ◌<◌, length, sym, subst}
use Rattle.desk_data.specs.declared.row.Row.TheVariants.{Cancelled}
use Rattle.desk_data.specs.PlanRows.{PlanRows, IsRow, row_at}
use Rattle.plan_pages.proofs.pages.Pages.read_row.Goals as goal

pub returns-clause-row : goal.returns-clause-row
returns-clause-row c = subst (λ (P : PlanRows). c.at.result.now ≡ row_at P c.args.leg.0) c.self.view_is (c.at.ensures Cancelled)

pub returns-clause-departs : goal.returns-clause-departs
returns-clause-departs c =
    let lt : c.args.leg.0 < length c.self.inside.rows = subst (λ (P : PlanRows). c.args.leg.0 < length P.rows) (sym c.self.view_is) c.requires in
    subst IsRow (sym (c.at.ensures Cancelled)) (c.self.invariant.rows c.args.leg.0 Cancelled lt)

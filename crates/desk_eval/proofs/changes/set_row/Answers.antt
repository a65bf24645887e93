use Rattle.std.proofs.Common.{◌≡◌, rules, sym, ap, ◌∙◌}
use Rattle.desk_data.specs.PlanRows.{PlanRows, row_at}
use Rattle.desk_eval.proofs.BackLaws.{after-itself}
use Rattle.step_laws.proofs.SwapLaws.{with_row-own}
use Rattle.desk_eval.proofs.changes.set_row.Goals as goal

pub returns-then-eq-clause-rows : goal.returns-then-eq-clause-rows
returns-then-eq-clause-rows c =
    let x = c.args.leg.0 in
    let there : c.read_row.result ≡ row_at c.args.eval.now.rows x = c.read_row.ensures.row ∙ ap (λ (P : PlanRows). row_at P x) c.plan.ensures.rows in
    let same : c.read_row.result ≡ c.args.row = search rules in
    sym (with_row-own c.args.eval.now.rows x c.args.row (sym same ∙ there))

pub returns-then-eq-clause-after : goal.returns-then-eq-clause-after
returns-then-eq-clause-after c = after-itself 1 c.args.eval.now

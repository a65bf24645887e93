use Rattle.std.proofs.Common.{rules, ◌≡◌, ℕ, List, sym, ap, ◌∙◌}
use Rattle.std.proofs.lemmas.List.{set-get_or}
use Rattle.desk_data.specs.declared.row.Row.{Row}
use Rattle.desk_data.specs.declared.row.Row.TheVariants.{Cancelled}
use Rattle.desk_data.specs.PlanRows.{PlanRows, row_at, with_row}
use Rattle.plan_pages.proofs.changed.put_row.Goals as goal

-- the row that a leg has already
same_row : (P : PlanRows) (x : ℕ) (row had : Row) → had ≡ row_at P x → had ≡ row → P ≡ with_row P x row
same_row P x row had stood is =
    ap (λ (rows : List Row). record P { rows = rows }) (sym (set-get_or P.rows x Cancelled))
    ∙ ap (with_row P x) (sym stood ∙ is)

pub returns-else-ne : goal.returns-else-ne
returns-else-ne c = let is : c.read_row.result ≡ c.args.row = search rules in same_row c.args.pages.now c.args.leg.0 c.args.row c.read_row.result c.read_row.ensures.row is

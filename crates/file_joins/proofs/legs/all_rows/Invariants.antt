use Rattle.std.proofs.Common.{◌≡◌, map, take}
use Rattle.std.specs.Prelude.{unwrap_or}
use Rattle.desk_data.specs.declared.row.Row.TheVariants.{Cancelled}
use Rattle.file_joins.proofs.legs.all_rows.Given as goal

abbrev pub invariant-loop-row : goal.invariant-loop-row
invariant-loop-row l = l.rows.items ≡ map (λ row. unwrap_or row Cancelled) (take l.row-index l.stated)

use Rattle.std.proofs.Common.{List, sym, subst}
use Rattle.std.specs.Prelude.{All}
use Rattle.std.proofs.lemmas.List.Elements.{All-replicate, All-nil}
use Rattle.desk_data.specs.declared.row.Row.{Row}
use Rattle.desk_data.specs.declared.row.Row.TheVariants.{Cancelled}
use Rattle.desk_data.specs.declared.row.Group.{Group}
use Rattle.desk_data.specs.PlanRows.{IsRow, AreGroups}
use Rattle.desk_tests.proofs.tests.pages.cancelled.Goals as goal

pub of-plan-requires : goal.of-plan-requires
of-plan-requires c = record {
  rows = subst (λ (rows : List Row). All IsRow rows) (sym c.in_ok-cancelled_rows.ensures) (All-replicate IsRow 40 Cancelled tt);
  groups = rw (c.new.ensures.items) (All-nil AreGroups);
}

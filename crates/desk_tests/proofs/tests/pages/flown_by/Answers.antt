use Rattle.std.proofs.Common.{◌<◌, length, sym, subst}
use Rattle.desk_data.specs.PlanRows.{PlanRows}
use Rattle.desk_tests.proofs.tests.pages.flown_by.Goals as goal

pub fly-requires : goal.fly-requires
fly-requires c = subst (λ (P : PlanRows). 16 < length P.rows) (sym c.in_ok-version.ensures) c.requires

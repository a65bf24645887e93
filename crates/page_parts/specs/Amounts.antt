-- What a group of passengers costs in each of their four terms.
use Rattle.std.specs.Prelude.{ℕ}
use Rattle.desk_data.specs.declared.row.Group.{Group}
use Rattle.desk_data.specs.Situation.{Situation}
use Rattle.desk_data.specs.PlanRows.{PlanRows}
use Rattle.desk_rules.specs.Cost.{delay, cancellation, downgrade, legal}
use Rattle.page_parts.specs.declared.amounts.PassengerTerm.{PassengerTerm}
use Rattle.page_parts.specs.declared.amounts.PassengerTerm.TheVariants as of

-- the term of a group of reservation r
abbrev pub amount : Situation → PlanRows → PassengerTerm → ℕ → Group → ℕ
amount I P of.Delay = delay I P
amount I P of.Cancellation = cancellation I
amount I P of.Downgrade = downgrade I
amount I P of.Legal = legal I P

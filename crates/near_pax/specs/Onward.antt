-- Whether legs go on to where passengers want to go.
use Rattle.std.specs.Prelude.{ℕ, Bool, nat_lt, Some, filter, length}
use Rattle.desk_units.specs.declared.numbers.Airport.{Airport}
use Rattle.desk_data.specs.Situation.{Situation, legs_of}
use Rattle.desk_data.specs.PlanRows.{PlanRows}
use Rattle.desk_rules.specs.Numbers.{numbers}
use Rattle.near_pax.specs.declared.sought.Sought.{Sought}
use Rattle.near_pax.specs.Sought.{is_sought}

-- in the time of what is sought, from airport a to another
abbrev pub onward_from : Sought → Airport → ℕ → Sought
onward_from sought dest a = record { from = record { 0 = a }; to = Some dest; earliest = sought.earliest; until = sought.until }

-- whether a leg goes there
abbrev pub leads_on : Situation → PlanRows → Sought → Airport → ℕ → Bool
leads_on I P sought dest a = nat_lt 0 (length (filter (is_sought I P (onward_from sought dest a)) (numbers (legs_of I))))

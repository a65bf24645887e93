-- The most that a passenger costs in each term, and what the terms sum to.
use Rattle.std.proofs.Common.{◌≡◌, ℕ, ◌+◌, refl, arith}
use Rattle.desk_data.specs.declared.row.Group.{Group}
use Rattle.desk_data.specs.Situation.{Situation}
use Rattle.desk_data.specs.PlanRows.{PlanRows}
use Rattle.desk_data.specs.Valid.{IsValid, IsPlanFor}
use Rattle.desk_rules.specs.Cost.{delay, cancellation, downgrade, legal, over_groups, delay_cost, cancellation_cost, downgrade_cost, legal_cost, operating_cost, position_cost, cost}
use Rattle.desk_rules.proofs.CostLaws.{IsAtMost, delay-le, cancellation-le, downgrade-le, legal-le}
use Rattle.plan_checks.specs.Amounts.{group_cost}
use Rattle.plan_checks.proofs.GroupLaws.{passenger_most}
use Rattle.page_parts.specs.declared.amounts.PassengerTerm.{PassengerTerm}
use Rattle.page_parts.specs.declared.amounts.PassengerTerm.TheVariants as of
use Rattle.page_parts.specs.Amounts.{amount}

pub amount-le : (I : Situation) (P : PlanRows) (term : PassengerTerm) → IsValid I → IsPlanFor I P → IsAtMost (amount I P term) passenger_most
amount-le I P of.Delay valid plan r group short = omega (arith, delay-le I P valid plan r group short)
amount-le I P of.Cancellation valid plan r group short = omega (arith, cancellation-le I valid r group short)
amount-le I P of.Downgrade valid plan r group short = omega (arith, downgrade-le I valid r group short)
amount-le I P of.Legal valid plan r group short = omega (arith, legal-le I P valid r group short)

-- ---- sums

-- the four terms of a group
pub group_is : (I : Situation) (P : PlanRows) (r : ℕ) (group : Group) → group_cost I P r group ≡ delay I P r group + cancellation I r group + downgrade I r group + legal I P r group
unfolding group_cost
group_is I P r group = refl

-- the terms of passengers, over all groups
pub delay_is : (I : Situation) (P : PlanRows) → over_groups I P (amount I P of.Delay) ≡ delay_cost I P
unfolding delay_cost
delay_is I P = refl

pub cancellation_is : (I : Situation) (P : PlanRows) → over_groups I P (amount I P of.Cancellation) ≡ cancellation_cost I P
unfolding cancellation_cost
cancellation_is I P = refl

pub downgrade_is : (I : Situation) (P : PlanRows) → over_groups I P (amount I P of.Downgrade) ≡ downgrade_cost I P
unfolding downgrade_cost
downgrade_is I P = refl

pub legal_is : (I : Situation) (P : PlanRows) → over_groups I P (amount I P of.Legal) ≡ legal_cost I P
unfolding legal_cost
legal_is I P = refl

-- the cost, by these
pub cost_is : (I : Situation) (P : PlanRows) → cost I P ≡ operating_cost I P + over_groups I P (amount I P of.Delay) + over_groups I P (amount I P of.Cancellation) + over_groups I P (amount I P of.Downgrade) + over_groups I P (amount I P of.Legal) + position_cost I P
unfolding cost delay_cost cancellation_cost downgrade_cost legal_cost
cost_is I P = refl

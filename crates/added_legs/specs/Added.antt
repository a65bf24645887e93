-- What added legs break, and what a plan costs with them: the rules and the terms are those of the merged day and the merged plan.
use Rattle.std.specs.Prelude.{ℕ, ◌+◌, ◌-◌, nat_lt, if◌then◌else◌, List, ◌++◌, find, Option}
use Rattle.std.specs.Option.{option_map}
use Rattle.desk_data.specs.declared.broken.Broken.{Broken}
use Rattle.desk_data.specs.declared.broken.Broken.TheVariants.{C4, C5, C6, C7, C8, C9}
use Rattle.desk_data.specs.Situation.{Situation, legs_of}
use Rattle.desk_data.specs.PlanRows.{PlanRows}
use Rattle.desk_rules.specs.Least.{breaks, each_leg, each_plane, slot_items, plane}
use Rattle.desk_rules.specs.Cost.{operating_cost, delay_cost, cancellation_cost, downgrade_cost, legal_cost, position_cost}
use Rattle.added_legs.specs.declared.added.Added.{Added}
use Rattle.added_legs.specs.declared.added.AddBroken.{AddBroken}
use Rattle.added_legs.specs.declared.added.AddBroken.TheVariants as add
use Rattle.added_legs.specs.Merged.{merged_day, merged_plan}

-- the items of C4 to C11 in their order: by rule, then by what they name
unfoldable pub items_from_c4 : Situation → List Broken
items_from_c4 I = each_leg I C4 ++ each_leg I C5 ++ each_leg I C6 ++ each_leg I C7 ++ each_plane I C8 ++ each_plane I C9 ++ slot_items I

-- how an item of the merged day is named, where there are so many legs: C4 to C7 name an added leg by its aircraft
abbrev pub named : ℕ → Broken → AddBroken
named legs (C4 leg) = if nat_lt leg.0 legs then add.Old (C4 leg) else add.C4 (plane (leg.0 - legs))
named legs (C5 leg) = if nat_lt leg.0 legs then add.Old (C5 leg) else add.C5 (plane (leg.0 - legs))
named legs (C6 leg) = if nat_lt leg.0 legs then add.Old (C6 leg) else add.C6 (plane (leg.0 - legs))
named legs (C7 leg) = if nat_lt leg.0 legs then add.Old (C7 leg) else add.C7 (plane (leg.0 - legs))
named legs item = add.Old item

-- the first item of C4 to C11 that the merged plan breaks
unfoldable pub least_added : Situation → PlanRows → List Added → Option AddBroken
least_added I P A = option_map (named (legs_of I)) (find (breaks (merged_day I P A) (merged_plan I P A)) (items_from_c4 (merged_day I P A)))

-- the cost, with the operating term and the aircraft's ends of the merged plan. No passenger is on an added leg
unfoldable pub cost_added : Situation → PlanRows → List Added → ℕ
cost_added I P A =
    operating_cost (merged_day I P A) (merged_plan I P A)
    + delay_cost I P + cancellation_cost I P + downgrade_cost I P + legal_cost I P
    + position_cost (merged_day I P A) (merged_plan I P A)

-- The rules that ask rows alone, and the steps that leave rows as they are.
use Rattle.std.specs.Prelude.{◌≡◌, Bool, true, false, ◌&&◌, nat_lt}
use Rattle.desk_data.specs.declared.broken.Broken.{Broken}
use Rattle.desk_data.specs.declared.broken.Broken.TheVariants.{C1, C2, C3, C4, C5, C6, C7, C8, C9, C10, C11, C12, C13, C14, C15}
use Rattle.desk_data.specs.Situation.{Situation, legs_of, planes_of, airports_of}
use Rattle.plan_moves.specs.declared.moves.Step.{Step}
use Rattle.plan_moves.specs.declared.moves.Step.TheVariants.{Set, Push, Swap, Rebook, Tidy, Refill}
use Rattle.desk_data.specs.PlanRows.{PlanRows}
use Rattle.desk_rules.specs.Least.{all_hours, breaks}

-- whether a step leaves each leg its row: a Set, a Push and a Swap may not
abbrev pub keeps_rows : Step → Bool
keeps_rows (Set leg was new) = false
keeps_rows (Push plane after) = false
keeps_rows (Swap first second at) = false
keeps_rows (Rebook res path to count) = true
keeps_rows Tidy = true
keeps_rows (Refill leg) = true

-- whether a plan for the day can break an item, and its rule asks rows alone: C1 to C7 of a leg, C8 and C9 of an aircraft, C10 and C11 of an
-- hour of an airport
abbrev pub is_of_rows : Situation → Broken → Bool
is_of_rows I (C1 leg) = nat_lt leg.0 (legs_of I)
is_of_rows I (C2 leg) = nat_lt leg.0 (legs_of I)
is_of_rows I (C3 leg) = nat_lt leg.0 (legs_of I)
is_of_rows I (C4 leg) = nat_lt leg.0 (legs_of I)
is_of_rows I (C5 leg) = nat_lt leg.0 (legs_of I)
is_of_rows I (C6 leg) = nat_lt leg.0 (legs_of I)
is_of_rows I (C7 leg) = nat_lt leg.0 (legs_of I)
is_of_rows I (C8 plane) = nat_lt plane.0 (planes_of I)
is_of_rows I (C9 plane) = nat_lt plane.0 (planes_of I)
is_of_rows I (C10 airport hour) = nat_lt airport.0 (airports_of I) && nat_lt hour all_hours
is_of_rows I (C11 airport hour) = nat_lt airport.0 (airports_of I) && nat_lt hour all_hours
is_of_rows I (C12 leg cabin) = false
is_of_rows I (C13 res) = false
is_of_rows I (C14 res) = false
is_of_rows I (C15 res) = false

-- a plan breaks an item of such a rule
pub record BreaksRows (I : Situation) (P : PlanRows) : Type 0 where
  pub item : Broken
  pub of : is_of_rows I item ≡ true
  pub broken : breaks I P item ≡ true

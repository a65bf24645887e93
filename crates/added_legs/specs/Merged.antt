-- Added legs, and the day and the plan with them.
--
-- The letters, here and in the other files:
--   I  the day, P  a plan for it         A  a list of added legs, a  one of them
--   p  the number of an aircraft         x  the number of a leg
--   M  the merged day, Q  the merged plan
use Rattle.std.specs.Prelude.{◌≡◌, ◌≢◌, ℕ, ◌<◌, Bool, true, false, ◌&&◌, ◌==◌, List, [], ◌++◌, map, find, All, Option, Some, None, unwrap_or, is_some}
use Rattle.std.specs.List.{AllPairs}
use Rattle.desk_units.specs.declared.numbers.Airport.{Airport}
use Rattle.desk_units.specs.declared.numbers.Haul.TheVariants.{D}
use Rattle.desk_units.specs.declared.numbers.Leg.{Leg}
use Rattle.desk_data.specs.declared.info.LegInfo.{LegInfo}
use Rattle.desk_data.specs.declared.parts.Parts.{Parts}
use Rattle.desk_data.specs.declared.row.Row.{Row}
use Rattle.desk_data.specs.declared.row.Row.TheVariants.{Flown, Cancelled}
use Rattle.desk_data.specs.Situation.{Situation, legs_of, planes_of, airports_of, plane_at, distance, no_leg}
use Rattle.desk_data.specs.PlanRows.{PlanRows}
use Rattle.desk_rules.specs.Numbers.{numbers, none_below}
use Rattle.desk_rules.specs.Rotations.{precedes}
use Rattle.desk_rules.specs.Maintenance.{flies}
use Rattle.desk_rules.specs.Least.{leg, plane}
use Rattle.plan_reads.specs.Last.{stand}
use Rattle.added_legs.specs.declared.added.Added.{Added}

-- ---- where an added leg leaves

-- whether a leg is the last of aircraft p: no leg of the aircraft comes after it
abbrev pub is_last_leg : Situation → PlanRows → ℕ → Leg → Bool
is_last_leg I P p last = flies P p last.0 && none_below (legs_of I) (λ x. precedes P last.0 x)

-- the last leg of aircraft p, if it flies one
unfoldable pub last_leg : Situation → PlanRows → ℕ → Option Leg
last_leg I P p = find (is_last_leg I P p) (map leg (numbers (legs_of I)))

-- where aircraft p ends: where its last leg arrives, or where it stands at first if it flies none
unfoldable pub plane_end : Situation → PlanRows → ℕ → Airport
plane_end I P p = stand I p (last_leg I P p)

-- the minutes that an added leg of aircraft p takes to an airport, where the day has a distance to it
abbrev pub way_to : Situation → PlanRows → ℕ → Airport → Option ℕ
way_to I P p dest = distance I (plane_end I P p).0 dest.0

abbrev pub minutes_to : Situation → PlanRows → ℕ → Airport → ℕ
minutes_to I P p dest = unwrap_or (way_to I P p dest) 0

-- ---- lists of added legs

-- an added leg that there can be: its aircraft is no surface transport, and the day has a distance to its destination
pub record IsAdded (I : Situation) (P : PlanRows) (a : Added) : Type 0 where
  pub aircraft : a.plane.0 < planes_of I
  pub air : (plane_at I a.plane.0).surface ≡ false
  pub airport : a.dest.0 < airports_of I
  pub way : is_some (way_to I P a.plane.0 a.dest) ≡ true
  pub departs : a.dep.0 < 52596000

-- a list of them has at most one for an aircraft
pub record AreAdded (I : Situation) (P : PlanRows) (A : List Added) : Type 0 where
  pub each : All (IsAdded I P) A
  pub apart : AllPairs (λ a b. a.plane.0 ≢ b.plane.0) A

-- the added leg of aircraft p, if a list has one
unfoldable pub added_for : List Added → ℕ → Option Added
added_for A p = find (λ a. a.plane.0 == p) A

-- ---- the merged day and the merged plan: the added leg of aircraft p is the leg whose number is p more than there are legs

-- the added leg of aircraft p as a leg: no passenger has it, and it has no previous leg. Where there is none, a leg of nothing
abbrev pub leg_for : Situation → PlanRows → ℕ → Option Added → LegInfo
leg_for I P p None = no_leg
leg_for I P p (Some a) = record { flight = []; day = 0; origin = plane_end I P p; dest = a.dest; sched = record { 0 = 0 }; block = minutes_to I P p a.dest; distance = minutes_to I P p a.dest; haul = D; plane = plane p; prev = None }

-- and its row: cancelled where there is none
abbrev pub row_for : ℕ → Option Added → Row
row_for p None = Cancelled
row_for p (Some a) = Flown (plane p) a.dep

abbrev pub added_legs : Situation → PlanRows → List Added → List LegInfo
added_legs I P A = map (λ p. leg_for I P p (added_for A p)) (numbers (planes_of I))

abbrev pub added_rows : Situation → List Added → List Row
added_rows I A = map (λ p. row_for p (added_for A p)) (numbers (planes_of I))

abbrev pub merged_parts : Situation → PlanRows → List Added → Parts
merged_parts I P A = record I.parts { legs = I.parts.legs ++ added_legs I P A }

abbrev pub merged_day : Situation → PlanRows → List Added → Situation
merged_day I P A = record I { parts = merged_parts I P A }

abbrev pub merged_plan : Situation → PlanRows → List Added → PlanRows
merged_plan I P A = record P { rows = P.rows ++ added_rows I A }

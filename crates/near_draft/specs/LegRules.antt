-- The rules of one leg that steps may break.
use Rattle.std.specs.Prelude.{◌≡◌, ℕ, ◌-◌, ◌<◌, Bool, true, false, ◌&&◌, ◌||◌, List, Option, Some, None, slice_index_or}
use Rattle.std.specs.List.{Contains}
use Rattle.desk_units.specs.declared.numbers.Leg.{Leg}
use Rattle.desk_units.specs.declared.numbers.Plane.{Plane}
use Rattle.desk_data.specs.declared.row.Row.{Row}
use Rattle.desk_data.specs.Situation.{Situation, fixed, legs_of}
use Rattle.desk_data.specs.PlanRows.{PlanRows}
use Rattle.plan_moves.specs.declared.moves.Step.{Step}
use Rattle.plan_moves.specs.declared.moves.Step.TheVariants.{Push}
use Rattle.desk_rules.specs.Maintenance.{flies}
use Rattle.desk_rules.specs.Rules.{keeps_c2, keeps_c4, keeps_c5, keeps_c6, keeps_c7, departs_in_time, c4_range, c7_service}
use Rattle.plan_reads.specs.declared.rotation_leg.RotationLeg.{RotationLeg}
use Rattle.plan_reads.specs.AfterLeg.{c5_location_after, c6_ground_time_after}

-- whether leg x keeps C2 and C4 to C7
abbrev pub keeps_leg_rules : Situation → PlanRows → ℕ → Bool
keeps_leg_rules I P x = keeps_c5 I P x && keeps_c6 I P x && keeps_c2 I P x && keeps_c4 I P x && keeps_c7 I P x

-- the same told by a row of the leg, and by the leg before it on its aircraft
abbrev pub leg_rules_after : Situation → ℕ → Option RotationLeg → Row → Bool
leg_rules_after I x before row =
    c5_location_after I x before row && c6_ground_time_after I x before row && (fixed I x || departs_in_time I x row) && c4_range I x row && c7_service I x row

-- the leg to the left of place k, if there is one
abbrev pub IsLeft : List ℕ → ℕ → Option Leg → Type 0
IsLeft legs k None = k ≡ 0
IsLeft legs k (Some leg) = (0 < k) × (slice_index_or legs (k - 1) 0 ≡ leg.0)

-- aircraft p flies a leg that breaks one of them
pub record BreaksOf (I : Situation) (P : PlanRows) (p : ℕ) : Type 0 where
  pub leg : ℕ
  pub within : leg < legs_of I
  pub flown : flies P p leg ≡ true
  pub broken : keeps_leg_rules I P leg ≡ false

-- an aircraft does that one of some steps pushes
pub record BreaksPushed (I : Situation) (P : PlanRows) (steps : List Step) : Type 0 where
  pub plane : Plane
  pub after : Option Leg
  pub pushed : Contains steps (Push plane after)
  pub breaks : BreaksOf I P plane.0

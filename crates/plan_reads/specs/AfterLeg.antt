-- What the rules C5 and C6 ask of a leg, given the leg before it on its aircraft.
use Rattle.std.specs.Prelude.{◌≡◌, ℕ, ◌+◌, ◌<◌, Bool, true, ◌||◌, ◌==◌, nat_le, Option, Some, None}
use Rattle.std.specs.Option.{ForSome}
use Rattle.desk_units.specs.declared.numbers.Leg.{Leg}
use Rattle.desk_data.specs.declared.row.Row.{Row}
use Rattle.desk_data.specs.declared.row.Row.TheVariants.{Flown, Cancelled}
use Rattle.desk_data.specs.Situation.{Situation, legs_of, leg_at, plane_at}
use Rattle.desk_data.specs.PlanRows.{PlanRows}
use Rattle.desk_rules.specs.Rotations.{dep, ground_time}
use Rattle.plan_reads.specs.declared.rotation_leg.RotationLeg.{RotationLeg}
use Rattle.plan_reads.specs.Before.{IsLegBefore}
use Rattle.plan_reads.specs.Last.{stand}

-- which leg it is, if there is one
abbrev pub leg_in : Option RotationLeg → Option Leg
leg_in None = None
leg_in (Some at) = Some at.leg

-- a leg with its departure in a plan, if there is one
abbrev pub with_departure : PlanRows → Option Leg → Option RotationLeg
with_departure P None = None
with_departure P (Some leg) = Some (record { dep = record { 0 = dep P leg.0 }; leg = leg })

-- it is one of n legs, and departs before the minute 52,500,000
abbrev pub IsRotationLegOf : ℕ → RotationLeg → Type 0
IsRotationLegOf legs at = (at.leg.0 < legs) × (at.dep.0 < 52500000)

-- it is the leg before leg y in a plan, with its departure there, or there is none
pub record IsRotationLegBefore (I : Situation) (P : PlanRows) (y : ℕ) (before : Option RotationLeg) : Type 0 where
  pub leg : IsLegBefore P.rows (legs_of I) y (leg_in before)
  pub departs : ForSome before (λ earlier. earlier.dep.0 ≡ dep P earlier.leg.0)

-- C5 for the row of leg y: it leaves where the leg before it leaves the aircraft
abbrev pub c5_location_after : Situation → ℕ → Option RotationLeg → Row → Bool
c5_location_after I y before (Flown plane dep) = (plane_at I plane.0).surface || ((leg_at I y).origin.0 == (stand I plane.0 (leg_in before)).0)
c5_location_after I y before Cancelled = true

-- whether leg y of aircraft p, which departs at d, does so once the leg before it has arrived and the ground time is over
abbrev pub has_ground_time_after : Situation → ℕ → ℕ → ℕ → Option RotationLeg → Bool
has_ground_time_after I p y d None = true
has_ground_time_after I p y d (Some before) = nat_le (before.dep.0 + (leg_at I before.leg.0).block + ground_time I p before.leg.0 y) d

-- C6 for the row of leg y
abbrev pub c6_ground_time_after : Situation → ℕ → Option RotationLeg → Row → Bool
c6_ground_time_after I y before (Flown plane dep) = (plane_at I plane.0).surface || has_ground_time_after I plane.0 y dep.0 before
c6_ground_time_after I y before Cancelled = true

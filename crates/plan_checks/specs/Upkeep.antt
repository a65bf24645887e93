-- What the legs of an aircraft say of its maintenance, one leg at a time.
use Rattle.std.specs.Prelude.{◌≡◌, ℕ, ◌*◌, ◌<◌, ◌≤◌, Bool, true, false, ◌&&◌, ◌||◌, ◌==◌, nat_le, if◌then◌else◌, sum_by, List, Option, Some, None, length, slice_index_or}
use Rattle.std.specs.Option.{ForSome}
use Rattle.desk_units.specs.declared.numbers.Leg.{Leg}
use Rattle.desk_data.specs.declared.info.Maint.{Maint}
use Rattle.desk_data.specs.Situation.{Situation, legs_of, planes_of, leg_at, plane_at}
use Rattle.desk_data.specs.PlanRows.{PlanRows}
use Rattle.desk_rules.specs.Numbers.{numbers, none_below}
use Rattle.desk_rules.specs.Rotations.{dep, arr}
use Rattle.desk_rules.specs.Rules.{meets_span}
use Rattle.desk_rules.specs.Maintenance.{flies, departs_before, departs_from}
use Rattle.plan_checks.specs.declared.upkeep.Upkeep.{Upkeep}
use Rattle.plan_reads.specs.Last.{IsLastOf, stand}

-- what is said of no aircraft
abbrev pub no_upkeep : Upkeep
no_upkeep = record { stops = false; free = false; last = None; minutes = 0 }

-- whether leg x of aircraft p meets its maintenance
abbrev pub meets_maint : Situation → PlanRows → ℕ → Maint → ℕ → Bool
meets_maint I P p maint x = flies P p x && meets_span (dep P x) (arr I P x) maint.from maint.to

-- the block minutes of the first n legs that aircraft p flies and that depart before a moment
abbrev pub minutes_of : Situation → PlanRows → ℕ → ℕ → ℕ → ℕ
minutes_of I P p at n = sum_by (λ x. if departs_before P p at x then (leg_at I x).block else 0) (numbers n)

-- when a maintenance starts; where there is none, at 0
abbrev pub start_of : Option Maint → ℕ
start_of None = 0
start_of (Some maint) = maint.from.0

-- what is said before the legs are counted: only the last one before the maintenance is known
abbrev pub blank : Option Leg → Upkeep
blank last = record { stops = true; free = true; last = last; minutes = 0 }

-- what the first n legs say of a maintenance of aircraft p, and the last of all legs before it
pub record IsUpkeep (I : Situation) (P : PlanRows) (p : ℕ) (maint : Maint) (n : ℕ) (upkeep : Upkeep) : Type 0 where
  pub stops : upkeep.stops ≡ none_below n (departs_from P p maint.from.0)
  pub free : upkeep.free ≡ none_below n (meets_maint I P p maint)
  pub last : IsLastOf P p maint.from.0 (legs_of I) upkeep.last
  pub minutes : upkeep.minutes ≡ minutes_of I P p maint.from.0 n
  pub few : upkeep.minutes ≤ 2880 * n

-- what they say of the maintenance of each aircraft that has one
pub record AreUpkeeps (I : Situation) (P : PlanRows) (n : ℕ) (upkeeps : List Upkeep) : Type 0 where
  pub planes : length upkeeps ≡ planes_of I
  pub each : (p : ℕ) → p < planes_of I → ForSome (plane_at I p).maint (λ maint. IsUpkeep I P p maint n (slice_index_or upkeeps p no_upkeep))

-- the rules C8 and C9 for aircraft p, given what all legs say
abbrev pub makes_it : Situation → ℕ → Upkeep → Option Maint → Bool
makes_it I p upkeep None = true
makes_it I p upkeep (Some maint) = upkeep.stops || (upkeep.free && ((stand I p upkeep.last).0 == maint.airport.0))

abbrev pub is_within : Upkeep → Option Maint → Bool
is_within upkeep None = true
is_within upkeep (Some maint) = nat_le upkeep.minutes maint.minutes

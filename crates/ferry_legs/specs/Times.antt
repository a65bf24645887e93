-- What is kept to say when one more added leg may depart. The letters are those of added_legs.
use Rattle.std.specs.Prelude.{◌≡◌, ℕ, ◌≤◌, List, Option}
use Rattle.desk_units.specs.declared.numbers.Leg.{Leg}
use Rattle.desk_data.specs.Situation.{Situation, legs_of, planes_of, plane_at}
use Rattle.desk_data.specs.PlanRows.{PlanRows}
use Rattle.desk_rules.specs.Slots.{departures, arrivals}
use Rattle.hour_counts.specs.Counts.{count_at}
use Rattle.plan_reads.specs.Last.{AreLasts}
use Rattle.added_legs.specs.declared.added.Added.{Added}
use Rattle.plan_checks.specs.declared.upkeep.Upkeep.{Upkeep}
use Rattle.plan_checks.specs.Upkeep.{start_of, AreUpkeeps}

-- ---- the times

-- what is kept: the added legs, and for how many there is room; of each aircraft its last leg, its last leg before its maintenance, and what its legs say of that; and how many legs of the plan depart from each airport in each hour, and arrive there
pub record Times : Type 0 where
  pub added : List Added
  pub room : ℕ
  pub lasts : List (Option Leg)
  pub starts : List (Option Leg)
  pub upkeeps : List Upkeep
  pub departures : List ((ℕ × ℕ) × ℕ)
  pub arrivals : List ((ℕ × ℕ) × ℕ)

-- that is kept for a plan and a list of added legs
pub record IsTimesOf (I : Situation) (P : PlanRows) (A : List Added) (times : Times) : Type 0 where
  pub added : times.added ≡ A
  pub room : planes_of I ≤ times.room
  pub lasts : AreLasts I P (λ p. 52500000) (legs_of I) times.lasts
  pub starts : AreLasts I P (λ p. start_of (plane_at I p).maint) (legs_of I) times.starts
  pub upkeeps : AreUpkeeps I P (legs_of I) times.upkeeps
  pub departing : (a h : ℕ) → count_at times.departures a h ≡ departures I P a h
  pub arriving : (a h : ℕ) → count_at times.arrivals a h ≡ arrivals I P a h

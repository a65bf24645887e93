-- What is looked up once of a plan: from when on airports are calm, and when each aircraft is done.
use Rattle.std.specs.Prelude.{◌≡◌, ℕ, ◌<◌, ◌≤◌, nat_lt, if◌then◌else◌, List, length, slice_index_or, sum_by, All}
use Rattle.desk_data.specs.Situation.{Situation, airports_of, leg_at}
use Rattle.desk_data.specs.PlanRows.{PlanRows}
use Rattle.desk_rules.specs.Rotations.{dep}
use Rattle.desk_data.specs.Hours.{dep_cap, arr_cap}
use Rattle.desk_model.specs.Push.{rotation, departures_beside, arrivals_beside}
use Rattle.near_priced.specs.Priced.{paid_on}
use Rattle.near_dear.specs.Exchanged.{minutes}
use Rattle.near_dear.specs.Calm.{HasRoomFor, IsCalmAt, IsCalmFor, IsFreeFrom, DepartsBy}
use Rattle.near_dear.specs.declared.times.PlaneTimes.{PlaneTimes}

-- two aircraft have at most so many legs together, or nothing is known of them; more than so many fit into each hour beside those of the plan
abbrev pub most_legs : ℕ
most_legs = 16

-- the moment of airport a
abbrev pub moment : List ℕ → ℕ → ℕ
moment moments a = slice_index_or moments a 0

-- by airport a moment from which on it is calm
pub record AreCalm (I : Situation) (P : PlanRows) (moments : List ℕ) : Type 0 where
  pub airports : length moments ≡ airports_of I
  pub each : (a : ℕ) → a < airports_of I → IsCalmAt most_legs I P a (moment moments a)

-- by leg what those pay who are on it, or more
abbrev pub ArePaid : Situation → PlanRows → List ℕ → Type 0
ArePaid I P amounts = (x : ℕ) → paid_on I P x ≤ slice_index_or amounts x 0

-- leg x has departed by a moment, and the airports that it leaves and reaches are calm from it on
pub record IsBy (I : Situation) (P : PlanRows) (moments : List ℕ) (by x : ℕ) : Type 0 where
  pub departs : dep P x ≤ by
  pub from : (leg_at I x).origin.0 < airports_of I
  pub to : (leg_at I x).dest.0 < airports_of I
  pub origin : moment moments (leg_at I x).origin.0 ≤ by
  pub dest : moment moments (leg_at I x).dest.0 ≤ by

-- what is told of aircraft p: a moment by which all its legs have departed, and from which on it is free and the airports of its legs are calm; how many legs it flies, how many minutes they take, and what those pay who are on them, or more
pub record ArePlaneTimes (I : Situation) (P : PlanRows) (p : ℕ) (times : PlaneTimes) : Type 0 where
  pub free : IsFreeFrom I p times.by
  pub departs : DepartsBy I P p times.by
  pub calm : All (IsCalmFor most_legs I P times.by) (rotation I P p)
  pub minutes : times.minutes ≡ minutes I (rotation I P p)
  pub count : times.count ≡ length (rotation I P p)
  pub few : times.count ≤ most_legs
  pub paid : sum_by (paid_on I P) (rotation I P p) ≤ times.paid

-- how many minutes leg x takes, if it departs at a moment or later
abbrev pub late_block : Situation → PlanRows → ℕ → ℕ → ℕ
late_block I P at x = if nat_lt (dep P x) at then 0 else (leg_at I x).block

-- an hour of airport a has room for more than so many legs beside those of the plan, that depart and that arrive
pub record IsCalmHour (most : ℕ) (I : Situation) (P : PlanRows) (a h : ℕ) : Type 0 where
  pub departures : (x : ℕ) → HasRoomFor most (departures_beside I P x a h) (dep_cap I a h)
  pub arrivals : (x : ℕ) → HasRoomFor most (arrivals_beside I P x a h) (arr_cap I a h)

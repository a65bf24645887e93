-- Where aircraft stand when the window ends.
use Rattle.std.specs.Prelude.{◌≡◌, ℕ, ◌<◌, ◌≤◌, Bool, false, ◌==◌, if◌then◌else◌, List, filter, length, take, Option, Some, None, slice_index_or}
use Rattle.desk_units.specs.declared.numbers.Airport.{Airport}
use Rattle.desk_units.specs.declared.numbers.Leg.{Leg}
use Rattle.desk_data.specs.declared.info.PositionInfo.{PositionInfo}
use Rattle.desk_data.specs.Situation.{Situation, planes_of, plane_at}
use Rattle.desk_data.specs.PlanRows.{PlanRows}
use Rattle.desk_rules.specs.Numbers.{numbers}
use Rattle.desk_rules.specs.Cost.{is_wanted, ends_at}
use Rattle.plan_reads.specs.Last.{stand}

-- where aircraft p ends after its last leg: surface transport ends nowhere
abbrev pub end_of : Situation → ℕ → Option Leg → Option Airport
end_of I p last = if (plane_at I p).surface then None else Some (stand I p last)

-- whether that is an airport
abbrev pub is_there : Option Airport → ℕ → Bool
is_there None airport = false
is_there (Some there) airport = there.0 == airport

-- these are the places where aircraft end
pub record AreStands (I : Situation) (P : PlanRows) (stands : List (Option Airport)) : Type 0 where
  pub planes : length stands ≡ planes_of I
  pub each : (p airport : ℕ) → p < planes_of I → is_there (slice_index_or stands p None) airport ≡ ends_at I P p airport

-- those of the first n aircraft that end at an airport, in order
abbrev pub planes_ending_at : List (Option Airport) → ℕ → ℕ → List ℕ
planes_ending_at stands airport n = filter (λ p. is_there (slice_index_or stands p None) airport) (numbers n)

-- the first of these numbers, so many, are the aircraft that end at an airport; there is room for all
pub record AreHere (I : Situation) (stands : List (Option Airport)) (airport count : ℕ) (here : List ℕ) : Type 0 where
  pub room : length here ≡ planes_of I
  pub within : count ≤ length here
  pub each : take count here ≡ planes_ending_at stands airport (planes_of I)

-- how many of some aircraft are of a position's model and seats
abbrev pub count_of_wanted : Situation → PositionInfo → List ℕ → ℕ
count_of_wanted I position planes = length (filter (λ p. is_wanted position (plane_at I p)) planes)

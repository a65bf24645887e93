-- Where and when passengers may go on.
use Rattle.std.specs.Prelude.{ℕ, ◌≤◌, ◌+◌, List, [], ◌∷◌, length}
use Rattle.desk_units.specs.declared.numbers.Leg.{Leg}
use Rattle.desk_units.specs.declared.numbers.Cabin.{Cabin}
use Rattle.desk_data.specs.Situation.{Situation, leg_at, legs_of}
use Rattle.desk_data.specs.Paths.{last_leg}
use Rattle.desk_data.specs.Booked.{origin_of, booked_departure, booked_arrival, haul_of}
use Rattle.desk_data.specs.PlanRows.{PlanRows}
use Rattle.desk_data.specs.Valid.{IsPathOf}
use Rattle.desk_rules.specs.Rotations.{arr}
use Rattle.desk_rules.specs.Passengers.{longest_delay}

-- a stem has at most 8 legs, all of the day
pub record IsStemPath (I : Situation) (stem : List (Leg × Cabin)) : Type 0 where
  pub among : IsPathOf (legs_of I) stem
  pub short : length stem ≤ 8

-- the airport where passengers of reservation r stand after the legs of a path: at first where they set out
abbrev pub place_after : Situation → ℕ → List (Leg × Cabin) → ℕ
place_after I r [] = origin_of I r
place_after I r (pair ∷ path) = (leg_at I (last_leg (pair ∷ path))).dest.0

-- when they stand there: at first from their booked departure on
abbrev pub ready_after : Situation → PlanRows → ℕ → List (Leg × Cabin) → ℕ
ready_after I P r [] = booked_departure I r
ready_after I P r (pair ∷ path) = arr I P (last_leg (pair ∷ path))

-- the minute before which they have to arrive
abbrev pub due_before : Situation → ℕ → ℕ
due_before I r = booked_arrival I r + longest_delay (haul_of I r) + 1

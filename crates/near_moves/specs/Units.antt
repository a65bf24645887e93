-- Units: moves that are made of the same things, and stand together in the list of moves near a plan.
use Rattle.std.specs.Prelude.{ℕ, List}
use Rattle.desk_units.specs.declared.numbers.Leg.{Leg}
use Rattle.desk_units.specs.declared.numbers.Cabin.{Cabin}

-- what the moves of a unit are made of
pub data MoveUnit : Type 0 where
  -- N1: a leg departs at another time
  retimed : ℕ → MoveUnit
  -- N2: two aircraft exchange their legs
  swapped : ℕ → ℕ → MoveUnit
  -- N3: legs from this one on are cancelled
  dropped : ℕ → MoveUnit
  -- N4: a cancelled leg is flown again, by this aircraft
  restored : ℕ → ℕ → MoveUnit
  -- N5: so many legs from this one on go to another aircraft
  handed : ℕ → ℕ → ℕ → MoveUnit
  -- N6: passengers of a reservation leave this path
  rebooked : ℕ → List (Leg × Cabin) → MoveUnit

-- the number of the leg, the aircraft or the reservation to which the moves of a unit belong
abbrev pub owner : MoveUnit → ℕ
owner (retimed x) = x
owner (swapped p q) = p
owner (dropped x) = x
owner (restored x p) = x
owner (handed x k q) = x
owner (rebooked r path) = r

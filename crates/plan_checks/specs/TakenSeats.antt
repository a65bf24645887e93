-- The seats that passengers take, one reservation at a time.
use Rattle.std.specs.Prelude.{◌≡◌, ℕ, ◌*◌, ◌≤◌, List, sum_by, take, length, slice_index_or}
use Rattle.desk_units.specs.declared.numbers.Cabin.{Cabin}
use Rattle.desk_units.specs.declared.numbers.Seats.{Seats}
use Rattle.desk_data.specs.declared.row.Group.{Group}
use Rattle.desk_data.specs.Situation.{Situation, legs_of}
use Rattle.desk_data.specs.PlanRows.{PlanRows}
use Rattle.desk_rules.specs.Passengers.{seats_in, aboard_of}

-- no seats
abbrev pub no_seats : Seats
no_seats = record { f = 0; b = 0; e = 0 }

-- the seats that are taken in cabin c of leg x
abbrev pub seats_at : List Seats → ℕ → Cabin → ℕ
seats_at taken x c = seats_in (slice_index_or taken x no_seats) c

-- all passengers of some groups
abbrev pub all_of : List Group → ℕ
all_of groups = sum_by (λ group. group.count) groups

-- the seats that the first n reservations take, in each cabin of each leg
pub record AreTaken (I : Situation) (P : PlanRows) (n : ℕ) (taken : List Seats) : Type 0 where
  pub legs : length taken ≡ legs_of I
  pub each : (x : ℕ) (c : Cabin) → seats_at taken x c ≡ sum_by (aboard_of x c) (take n P.groups)
  pub few : (x : ℕ) (c : Cabin) → seats_at taken x c ≤ 1000 * n

-- What reservations booked, by their scheduled paths. No order and no passing of time changes it.
use Rattle.std.specs.Prelude.{◌≡◌, ℕ, ◌+◌, ◌<◌, ◌≤◌, nat_lt, if◌then◌else◌, List, [], ◌∷◌, length, slice_index_or}
use Rattle.desk_units.specs.declared.numbers.Leg.{Leg}
use Rattle.desk_units.specs.declared.numbers.Cabin.{Cabin}
use Rattle.desk_units.specs.declared.numbers.Cabin.TheVariants as cabin
use Rattle.desk_units.specs.declared.numbers.Haul.{Haul}
use Rattle.desk_units.specs.declared.numbers.Haul.TheVariants as haul
use Rattle.desk_units.specs.Ranks.{cabin_rank, haul_rank}
use Rattle.desk_data.specs.declared.booked.Booked.{Booked}
use Rattle.desk_data.specs.Paths.{first_leg, last_leg}
use Rattle.desk_data.specs.Situation.{Situation, reservations_of, leg_at, res_at}

abbrev pub booked_path : Situation → ℕ → List (Leg × Cabin)
booked_path I r = (res_at I r).path

-- where its first leg leaves, and its last leg arrives
unfoldable pub origin_of : Situation → ℕ → ℕ
origin_of I r = (leg_at I (first_leg (booked_path I r))).origin.0

unfoldable pub dest_of : Situation → ℕ → ℕ
dest_of I r = (leg_at I (last_leg (booked_path I r))).dest.0

-- the scheduled departure of its first leg, and the scheduled arrival of its last
unfoldable pub booked_departure : Situation → ℕ → ℕ
booked_departure I r = (leg_at I (first_leg (booked_path I r))).sched.0

unfoldable pub booked_arrival : Situation → ℕ → ℕ
booked_arrival I r = (leg_at I (last_leg (booked_path I r))).sched.0 + (leg_at I (last_leg (booked_path I r))).block

-- the higher of two hauls, and the highest of the legs of a path
abbrev pub higher_haul : Haul → Haul → Haul
higher_haul a b = if nat_lt (haul_rank a) (haul_rank b) then b else a

unfoldable pub highest_haul : Situation → List (Leg × Cabin) → Haul
highest_haul I [] = haul.D
highest_haul I (pair ∷ path) = higher_haul (leg_at I pair.0.0).haul (highest_haul I path)

-- the higher of two cabins, and the highest of a path: first is above business, and business above economy
abbrev pub higher_cabin : Cabin → Cabin → Cabin
higher_cabin a b = if nat_lt (cabin_rank b) (cabin_rank a) then b else a

unfoldable pub highest_cabin : List (Leg × Cabin) → Cabin
highest_cabin [] = cabin.E
highest_cabin (pair ∷ path) = higher_cabin pair.1 (highest_cabin path)

-- the haul and the reference cabin of a reservation are the highest that it booked
unfoldable pub haul_of : Situation → ℕ → Haul
haul_of I r = highest_haul I (booked_path I r)

unfoldable pub reference_of : Situation → ℕ → Cabin
reference_of I r = highest_cabin (booked_path I r)

-- ---- the table of it

-- this is what reservation r booked
pub record IsBooked (I : Situation) (r : ℕ) (booked : Booked) : Type 0 where
  pub origin : booked.origin.0 ≡ origin_of I r
  pub dest : booked.dest.0 ≡ dest_of I r
  pub departs : booked.departure.0 ≡ booked_departure I r
  pub arrives : booked.arrival.0 ≡ booked_arrival I r
  pub soon : booked.arrival.0 ≤ 52482880
  pub hauls : booked.haul ≡ haul_of I r
  pub cabins : booked.cabin ≡ reference_of I r

-- what each reservation booked, by its number
pub record AreBookings (I : Situation) (table : List Booked) : Type 0 where
  pub all : length table ≡ reservations_of I
  pub each : (r : ℕ) (other : Booked) → r < reservations_of I → IsBooked I r (slice_index_or table r other)

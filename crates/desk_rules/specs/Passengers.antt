-- Passengers: the seats that they take, and the paths that they are on. What they booked is defined in desk_data.
use Rattle.std.specs.Prelude.{ℕ, ◌+◌, ◌-◌, Bool, true, false, ◌&&◌, ◌==◌, nat_le, if◌then◌else◌, List, length, sum_by}
use Rattle.std.specs.List.{list_all, list_any}
use Rattle.desk_units.specs.declared.numbers.Leg.{Leg}
use Rattle.desk_units.specs.declared.numbers.Cabin.{Cabin}
use Rattle.desk_units.specs.declared.numbers.Cabin.TheVariants as cabin
use Rattle.desk_units.specs.declared.numbers.Haul.{Haul}
use Rattle.desk_units.specs.declared.numbers.Haul.TheVariants as haul
use Rattle.desk_units.specs.declared.numbers.Seats.{Seats}
use Rattle.desk_units.specs.Ranks.{cabin_rank}
use Rattle.desk_data.specs.declared.row.Row.{Row}
use Rattle.desk_data.specs.declared.row.Row.TheVariants.{Flown, Cancelled}
use Rattle.desk_data.specs.declared.row.Group.{Group}
use Rattle.desk_data.specs.Booked.{booked_arrival}
use Rattle.desk_data.specs.Paths.{leg_in, last_leg}
use Rattle.desk_data.specs.Situation.{Situation, leg_at}
use Rattle.desk_data.specs.PlanRows.{PlanRows, row_at}
use Rattle.desk_rules.specs.Numbers.{each_below}
use Rattle.desk_rules.specs.Rotations.{dep, arr, is_leg}

-- ---- seats

-- the seats of a cabin
abbrev pub seats_in : Seats → Cabin → ℕ
seats_in seats cabin.F = seats.f
seats_in seats cabin.B = seats.b
seats_in seats cabin.E = seats.e

-- whether a path has leg x in cabin c
abbrev pub takes : ℕ → Cabin → List (Leg × Cabin) → Bool
takes x c path = list_any (λ pair. (pair.0.0 == x) && (cabin_rank pair.1 == cabin_rank c)) path

-- the passengers of some groups who are in cabin c of leg x, and those of all reservations
abbrev pub aboard_of : ℕ → Cabin → List Group → ℕ
aboard_of x c groups = sum_by (λ group. if takes x c group.path then group.count else 0) groups

unfoldable pub aboard : PlanRows → ℕ → Cabin → ℕ
aboard P x c = sum_by (aboard_of x c) P.groups

-- ---- paths in a plan

abbrev pub is_flown : Row → Bool
is_flown (Flown plane dep) = true
is_flown Cancelled = false

-- whether all legs of a path are flown
unfoldable pub all_flown : PlanRows → List (Leg × Cabin) → Bool
all_flown P path = list_all (λ pair. is_flown (row_at P pair.0.0)) path

-- whether one aircraft flies both rows
abbrev pub share_plane : Row → Row → Bool
share_plane (Flown plane dep) (Flown other later) = plane.0 == other.0
share_plane (Flown plane dep) Cancelled = false
share_plane Cancelled row = false

-- the minutes that passengers need to change from one aircraft to another
abbrev pub connection_minutes : ℕ
connection_minutes = 30

-- the minutes that passengers need from leg x to leg y: none where x is the previous leg of y and one aircraft flies both
abbrev pub connection : Situation → PlanRows → ℕ → ℕ → ℕ
connection I P x y = if is_leg x (leg_at I y).prev && share_plane (row_at P x) (row_at P y) then 0 else connection_minutes

-- whether passengers of leg x can go on with leg y: it leaves where x arrived, and late enough
abbrev pub reaches : Situation → PlanRows → ℕ → ℕ → Bool
reaches I P x y = ((leg_at I y).origin.0 == (leg_at I x).dest.0) && nat_le (arr I P x + connection I P x y) (dep P y)

-- whether each leg of a path but the first is reached from the one before it
unfoldable pub connects : Situation → PlanRows → List (Leg × Cabin) → Bool
connects I P path = each_below (length path - 1) (λ i. reaches I P (leg_in path i) (leg_in path (i + 1)))

-- when a path arrives
abbrev pub arrival_of : Situation → PlanRows → List (Leg × Cabin) → ℕ
arrival_of I P path = arr I P (last_leg path)

-- how many minutes after the booked arrival a path of reservation r arrives, 0 if not later
unfoldable pub minutes_late : Situation → PlanRows → ℕ → List (Leg × Cabin) → ℕ
minutes_late I P r path = arrival_of I P path - booked_arrival I r

-- the longest delay of a reservation, by its haul
abbrev pub longest_delay : Haul → ℕ
longest_delay haul.D = 1080
longest_delay haul.C = 1080
longest_delay haul.I = 2160

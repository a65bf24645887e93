-- How many legs depart from an airport in an hour, and arrive there.
use Rattle.std.specs.Prelude.{◌≡◌, ℕ, ◌+◌, ◌-◌, ◌≤◌, Bool, ◌&&◌, not, ◌==◌, if◌then◌else◌, List, Option, Some, None, count_by, cond}
use Rattle.std.specs.Option.{option_map}
use Rattle.std.specs.Map.{lookup}
use Rattle.std.specs.Ordering.{nat_cmp, ordering_then, is_eq}
use Rattle.desk_units.specs.declared.numbers.Minute.{Minute}
use Rattle.desk_data.specs.declared.row.Row.{Row}
use Rattle.desk_data.specs.declared.row.Row.TheVariants.{Flown, Cancelled}
use Rattle.desk_data.specs.Situation.{Situation, legs_of, leg_at, plane_at}
use Rattle.desk_data.specs.PlanRows.{PlanRows, row_at}
use Rattle.desk_rules.specs.Numbers.{numbers}
use Rattle.desk_rules.specs.Rotations.{departure}
use Rattle.desk_rules.specs.Slots.{hour_of}
use Rattle.desk_rules.specs.Passengers.{is_flown}

-- ---- a number for each airport and hour

-- whether that is airport a and hour h
abbrev pub is_slot : ℕ → ℕ → ℕ × ℕ → Bool
is_slot a h k = is_eq (ordering_then (nat_cmp a k.0) (nat_cmp h k.1))

-- the number, 0 where none is written
abbrev pub or_zero : Option ℕ → ℕ
or_zero None = 0
or_zero (Some count) = count

abbrev pub count_at : List ((ℕ × ℕ) × ℕ) → ℕ → ℕ → ℕ
count_at entries a h = or_zero (lookup (is_slot a h) entries)

-- another number at one of them
abbrev pub IsWritten : List ((ℕ × ℕ) × ℕ) → List ((ℕ × ℕ) × ℕ) → ℕ → ℕ → ℕ → Type 0
IsWritten old new a h count = (b k : ℕ) → count_at new b k ≡ cond ((a == b) && (h == k)) count (count_at old b k)

abbrev pub one_if : Bool → ℕ
one_if b = cond b 1 0

-- how many of one slot or none are at airport b in hour k
abbrev pub among : Option (ℕ × ℕ) → ℕ → ℕ → ℕ
among None b k = 0
among (Some slot) b k = one_if ((slot.0 == b) && (slot.1 == k))

-- one more, where no number is near the greatest that can be kept; and one less
abbrev pub Enters : List ((ℕ × ℕ) × ℕ) → List ((ℕ × ℕ) × ℕ) → Option (ℕ × ℕ) → Type 0
Enters old new come = ((b k : ℕ) → count_at old b k ≤ 4000000000) → (b k : ℕ) → count_at new b k ≡ count_at old b k + among come b k

abbrev pub Leaves : List ((ℕ × ℕ) × ℕ) → List ((ℕ × ℕ) × ℕ) → Option (ℕ × ℕ) → Type 0
Leaves old new gone = (b k : ℕ) → count_at new b k ≡ count_at old b k - among gone b k

-- ---- what a plan has

-- whether leg y is counted by a row: it is flown, and by its scheduled aircraft no surface transport
abbrev pub is_counted : Situation → ℕ → Row → Bool
is_counted I y row = is_flown row && not (plane_at I (leg_at I y).plane.0).surface

-- whether such a leg departs from airport a in hour h, or arrives there then
abbrev pub departs_at : Situation → ℕ → ℕ → ℕ → Row → Bool
departs_at I a h y row = is_counted I y row && ((leg_at I y).origin.0 == a) && (hour_of (departure row) == h)

abbrev pub arrives_at : Situation → ℕ → ℕ → ℕ → Row → Bool
arrives_at I a h y row = is_counted I y row && ((leg_at I y).dest.0 == a) && (hour_of (departure row + (leg_at I y).block) == h)

-- when a leg departs that is counted
abbrev pub counted_departure : Situation → ℕ → Row → Option Minute
counted_departure I y (Flown plane dep) = if (plane_at I (leg_at I y).plane.0).surface then None else Some dep
counted_departure I y Cancelled = None

-- the airport and the hour of its departure, and of its arrival
abbrev pub departure_of : Situation → ℕ → Row → Option (ℕ × ℕ)
departure_of I y row = option_map (λ (dep : Minute). ((leg_at I y).origin.0, hour_of dep.0)) (counted_departure I y row)

abbrev pub arrival_of : Situation → ℕ → Row → Option (ℕ × ℕ)
arrival_of I y row = option_map (λ (dep : Minute). ((leg_at I y).dest.0, hour_of (dep.0 + (leg_at I y).block))) (counted_departure I y row)

-- what is counted of departures and of arrivals
pub record Counted : Type 0 where
  pub departures : List ((ℕ × ℕ) × ℕ)
  pub arrivals : List ((ℕ × ℕ) × ℕ)

-- of the first n legs of a plan
pub record AreCountsOfFirst (n : ℕ) (I : Situation) (Q : PlanRows) (counts : Counted) : Type 0 where
  pub departures : (a h : ℕ) → count_at counts.departures a h ≡ count_by (λ y. departs_at I a h y (row_at Q y)) (numbers n)
  pub arrivals : (a h : ℕ) → count_at counts.arrivals a h ≡ count_by (λ y. arrives_at I a h y (row_at Q y)) (numbers n)

-- at each airport in each hour there are counted the legs of the plan that depart, and those that arrive
abbrev pub AreCountsOf : Situation → PlanRows → Counted → Type 0
AreCountsOf I Q counts = AreCountsOfFirst (legs_of I) I Q counts

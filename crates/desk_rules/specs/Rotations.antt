-- The legs of an aircraft in their order.
use Rattle.std.specs.Prelude.{ℕ, ◌+◌, Bool, false, ◌&&◌, ◌||◌, nat_lt, ◌==◌, if◌then◌else◌, Option, Some, None}
use Rattle.desk_units.specs.declared.numbers.Leg.{Leg}
use Rattle.desk_data.specs.declared.row.Row.{Row}
use Rattle.desk_data.specs.declared.row.Row.TheVariants.{Flown, Cancelled}
use Rattle.desk_data.specs.Situation.{Situation, legs_of, leg_at, plane_at}
use Rattle.desk_data.specs.PlanRows.{PlanRows, row_at}
use Rattle.desk_rules.specs.Numbers.{none_below}

-- when a row departs; a cancelled row at no time, written 0
abbrev pub departure : Row → ℕ
departure (Flown plane dep) = dep.0
departure Cancelled = 0

-- the departure and the arrival of leg x
abbrev pub dep : PlanRows → ℕ → ℕ
dep P x = departure (row_at P x)

abbrev pub arr : Situation → PlanRows → ℕ → ℕ
arr I P x = dep P x + (leg_at I x).block

-- by departure, then by leg number
abbrev pub is_earlier : ℕ → ℕ → ℕ → ℕ → Bool
is_earlier x d y e = nat_lt d e || ((d == e) && nat_lt x y)

-- whether one aircraft flies both rows, that of leg x before that of leg y
abbrev pub comes_before : ℕ → Row → ℕ → Row → Bool
comes_before x (Flown plane dep) y (Flown other later) = (plane.0 == other.0) && is_earlier x dep.0 y later.0
comes_before x (Flown plane dep) y Cancelled = false
comes_before x Cancelled y row = false

abbrev pub precedes : PlanRows → ℕ → ℕ → Bool
precedes P x y = comes_before x (row_at P x) y (row_at P y)

-- whether leg y is the next after leg x: no third leg of their aircraft lies between
abbrev pub follows : Situation → PlanRows → ℕ → ℕ → Bool
follows I P x y = precedes P x y && none_below (legs_of I) (λ z. precedes P x z && precedes P z y)

-- whether no leg of its aircraft comes before leg y
abbrev pub is_first : Situation → PlanRows → ℕ → Bool
is_first I P y = none_below (legs_of I) (λ x. precedes P x y)

-- whether that is leg x
abbrev pub is_leg : ℕ → Option Leg → Bool
is_leg x None = false
is_leg x (Some leg) = leg.0 == x

-- the ground time of aircraft p between leg x and leg y: shorter where x is the previous leg of y
abbrev pub ground_time : Situation → ℕ → ℕ → ℕ → ℕ
ground_time I p x y = if is_leg x (leg_at I y).prev then (plane_at I p).transit else (plane_at I p).turnaround

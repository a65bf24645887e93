-- The legs and aircraft of a plan that moves are made of.
use Rattle.std.specs.Prelude.{ℕ, Bool, ◌&&◌, ◌||◌, not, ◌==◌, List, filter, take, length, bytes_eq}
use Rattle.std.specs.List.{list_all}
use Rattle.desk_units.specs.declared.numbers.Leg.{Leg}
use Rattle.desk_units.specs.declared.numbers.Plane.{Plane}
use Rattle.desk_units.specs.declared.numbers.Minute.{Minute}
use Rattle.desk_data.specs.declared.row.Row.{Row}
use Rattle.desk_data.specs.declared.row.Row.TheVariants.{Flown, Cancelled}
use Rattle.desk_data.specs.Situation.{Situation, planes_of, plane_at, fixed, called_off}
use Rattle.desk_data.specs.PlanRows.{PlanRows, row_at}
use Rattle.desk_rules.specs.Numbers.{numbers}
use Rattle.desk_rules.specs.Rotations.{precedes}
use Rattle.desk_rules.specs.Passengers.{is_flown}
use Rattle.desk_model.specs.Push.{rotation}

-- the numbers of things, as what they are
abbrev pub leg : ℕ → Leg
leg x = record { 0 = x }

abbrev pub plane : ℕ → Plane
plane p = record { 0 = p }

abbrev pub minute : ℕ → Minute
minute t = record { 0 = t }

-- the aircraft that flies a row, where one does
abbrev pub flier : Row → ℕ
flier (Flown plane dep) = plane.0
flier Cancelled = 0

-- a row flown by aircraft p from moment t on
abbrev pub flown_row : ℕ → ℕ → Row
flown_row p t = Flown (plane p) (minute t)

-- whether leg x is movable and flown, and whether it is movable and cancelled though it is not called off
abbrev pub is_movable_flown : Situation → PlanRows → ℕ → Bool
is_movable_flown I P x = not (fixed I x) && is_flown (row_at P x)

abbrev pub is_restorable : Situation → PlanRows → ℕ → Bool
is_restorable I P x = not (fixed I x) && (not (is_flown (row_at P x)) && not (called_off I x))

-- the aircraft of aircraft p's family, p among them, in ascending order
unfoldable pub family_of : Situation → ℕ → List ℕ
family_of I p = filter (λ q. bytes_eq (plane_at I q).family (plane_at I p).family) (numbers (planes_of I))

-- leg x and the legs after it on its aircraft, in their order
unfoldable pub legs_from : Situation → PlanRows → ℕ → List ℕ
legs_from I P x = filter (λ y. (y == x) || precedes P x y) (rotation I P (flier (row_at P x)))

-- the k legs of its aircraft that begin with leg x, where there are so many
abbrev pub run : Situation → PlanRows → ℕ → ℕ → List ℕ
run I P x k = take k (legs_from I P x)

-- whether there are k such legs, and all of them are movable
unfoldable pub is_run : Situation → PlanRows → ℕ → ℕ → Bool
is_run I P x k = (length (run I P x k) == k) && list_all (λ y. not (fixed I y)) (run I P x k)

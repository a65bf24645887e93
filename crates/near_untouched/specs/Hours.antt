-- Airports at which legs depart or arrive: whether an hour still has the same room, and how many legs of an aircraft there are.
--
-- P is the earlier plan, and Q the later one; R is either of them.
use Rattle.std.specs.Prelude.{◌≡◌, ℕ, ◌+◌, ◌<◌, ◌≤◌, Bool, true, ◌&&◌, ◌==◌, ◌⊎◌, List, Option, Some, None, count_by}
use Rattle.std.specs.Option.{option_map}
use Rattle.desk_units.specs.declared.numbers.Minute.{Minute}
use Rattle.desk_data.specs.declared.row.Row.{Row}
use Rattle.desk_data.specs.Hours.{dep_cap, arr_cap}
use Rattle.desk_data.specs.Situation.{Situation, legs_of, leg_at}
use Rattle.desk_data.specs.PlanRows.{PlanRows, row_at}
use Rattle.desk_rules.specs.Maintenance.{flies}
use Rattle.desk_rules.specs.Numbers.{numbers}
use Rattle.desk_rules.specs.Slots.{hour_of}
use Rattle.desk_model.specs.Push.{departures_beside, arrivals_beside}
use Rattle.hour_counts.specs.Counts.{counted_departure}
use Rattle.hour_counts.specs.declared.slot.Movement.{Movement}
use Rattle.hour_counts.specs.declared.slot.Movement.TheVariants.{Departure, Arrival}
use Rattle.near_moves.specs.Room.{IsSameRoom}
use Rattle.near_untouched.specs.Marks.{is_marked}

-- for how many legs an hour has to have room beside those that are counted, where it is not as full as it was: at most half as many legs of one aircraft may leave one airport, or reach it
abbrev pub margin : ℕ
margin = 16

-- half of it
abbrev pub half_margin : ℕ
half_margin = 8

-- the airport that leg x leaves, or that it reaches
abbrev pub place_of : Movement → Situation → ℕ → ℕ
place_of Departure I x = (leg_at I x).origin.0
place_of Arrival I x = (leg_at I x).dest.0

-- how many other legs than leg x depart from airport a in hour h, or arrive there then
abbrev pub beside : Movement → Situation → PlanRows → ℕ → ℕ → ℕ → ℕ
beside Departure I R x a h = departures_beside I R x a h
beside Arrival I R x a h = arrivals_beside I R x a h

-- how many may
abbrev pub cap : Movement → Situation → ℕ → ℕ → Option ℕ
cap Departure I a h = dep_cap I a h
cap Arrival I a h = arr_cap I a h

-- the hour in which leg y is counted at that airport by a row, if it is
abbrev pub counted_hour : Movement → Situation → ℕ → Row → Option ℕ
counted_hour Departure I y row = option_map (λ (dep : Minute). hour_of dep.0) (counted_departure I y row)
counted_hour Arrival I y row = option_map (λ (dep : Minute). hour_of (dep.0 + (leg_at I y).block)) (counted_departure I y row)

-- ---- room

-- beside n legs there is room for more than the margin, where there is a cap
abbrev pub HasRoom : ℕ → Option ℕ → Type 0
HasRoom n None = Unit {0}
HasRoom n (Some most) = margin + n < most

-- in plan R there is in hour h of airport a, whichever leg is left out
abbrev pub IsRoomy : Movement → Situation → PlanRows → ℕ → ℕ → Type 0
IsRoomy m I R a h = (x : ℕ) → HasRoom (beside m I R x a h) (cap m I a h)

-- an hour of airport a, if it is one, is roomy in plan R, or the airport is marked
abbrev pub IsHourTold : Movement → Situation → PlanRows → List Bool → ℕ → Option ℕ → Type 0
IsHourTold m I R tight a None = Unit {0}
IsHourTold m I R tight a (Some h) = (is_marked tight a ≡ true) ⊎ IsRoomy m I R a h

-- leg y is counted in the same hour in both plans; or of both its hours it is told whether they are roomy in plan R
abbrev pub IsLegTold : Movement → Situation → PlanRows → PlanRows → PlanRows → List Bool → ℕ → Type 0
IsLegTold m I P Q R tight y =
    (counted_hour m I y (row_at P y) ≡ counted_hour m I y (row_at Q y))
    ⊎ (IsHourTold m I R tight (place_of m I y) (counted_hour m I y (row_at P y)) × IsHourTold m I R tight (place_of m I y) (counted_hour m I y (row_at Q y)))

-- each hour of the airport that leg y leaves, or that it reaches, has the same room beside it in both plans
abbrev pub HasSameRoom : Movement → Situation → PlanRows → PlanRows → ℕ → Type 0
HasSameRoom m I P Q y = (h : ℕ) → IsSameRoom margin (beside m I P y (place_of m I y) h) (beside m I Q y (place_of m I y) h) (cap m I (place_of m I y) h)

-- ---- how many legs

-- whether aircraft p flies leg y, and that leaves airport a, or reaches it
abbrev pub is_at : Movement → Situation → PlanRows → ℕ → ℕ → ℕ → Bool
is_at m I P p a y = flies P p y && (place_of m I y == a)

-- at most half the margin of the legs of aircraft p leave one airport, or reach one
abbrev pub HasFew : Movement → Situation → PlanRows → ℕ → Type 0
HasFew m I P p = (a : ℕ) → count_by (is_at m I P p a) (numbers (legs_of I)) + count_by (is_at m I P p a) (numbers (legs_of I)) ≤ margin

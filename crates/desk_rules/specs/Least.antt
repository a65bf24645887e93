-- The items that a plan can break in their order, and the least broken one.
use Rattle.std.specs.Prelude.{ℕ, Bool, not, List, [], ◌∷◌, ◌++◌, map, find, Option}
use Rattle.std.specs.List.{flat_map}
use Rattle.desk_units.specs.declared.numbers.Leg.{Leg}
use Rattle.desk_units.specs.declared.numbers.Plane.{Plane}
use Rattle.desk_units.specs.declared.numbers.Airport.{Airport}
use Rattle.desk_units.specs.declared.numbers.Res.{Res}
use Rattle.desk_units.specs.declared.numbers.Cabin.{Cabin}
use Rattle.desk_units.specs.declared.numbers.Cabin.TheVariants.{F, B, E}
use Rattle.desk_data.specs.declared.broken.Broken.{Broken}
use Rattle.desk_data.specs.declared.broken.Broken.TheVariants.{C1, C2, C3, C4, C5, C6, C7, C8, C9, C10, C11, C12, C13, C14, C15}
use Rattle.desk_data.specs.Situation.{Situation, legs_of, planes_of, airports_of, reservations_of}
use Rattle.desk_data.specs.PlanRows.{PlanRows}
use Rattle.desk_rules.specs.Numbers.{numbers}
use Rattle.desk_rules.specs.Rules.{keeps_c1, keeps_c2, keeps_c3, keeps_c4, keeps_c5, keeps_c6, keeps_c7}
use Rattle.desk_rules.specs.Maintenance.{keeps_c8, keeps_c9}
use Rattle.desk_rules.specs.Slots.{keeps_c10, keeps_c11}
use Rattle.desk_rules.specs.Carriage.{keeps_c12, keeps_c13, keeps_c14, keeps_c15}

-- whether the plan breaks an item
unfoldable pub breaks : Situation → PlanRows → Broken → Bool
breaks I P (C1 leg) = not (keeps_c1 I P leg.0)
breaks I P (C2 leg) = not (keeps_c2 I P leg.0)
breaks I P (C3 leg) = not (keeps_c3 I P leg.0)
breaks I P (C4 leg) = not (keeps_c4 I P leg.0)
breaks I P (C5 leg) = not (keeps_c5 I P leg.0)
breaks I P (C6 leg) = not (keeps_c6 I P leg.0)
breaks I P (C7 leg) = not (keeps_c7 I P leg.0)
breaks I P (C8 plane) = not (keeps_c8 I P plane.0)
breaks I P (C9 plane) = not (keeps_c9 I P plane.0)
breaks I P (C10 airport hour) = not (keeps_c10 I P airport.0 hour)
breaks I P (C11 airport hour) = not (keeps_c11 I P airport.0 hour)
breaks I P (C12 leg cabin) = not (keeps_c12 I P leg.0 cabin)
breaks I P (C13 res) = not (keeps_c13 I P res.0)
breaks I P (C14 res) = not (keeps_c14 I P res.0)
breaks I P (C15 res) = not (keeps_c15 I P res.0)

-- leg number x, aircraft number p, airport number a, reservation number r
abbrev pub leg : ℕ → Leg
leg x = record { 0 = x }

abbrev pub plane : ℕ → Plane
plane p = record { 0 = p }

abbrev pub airport : ℕ → Airport
airport a = record { 0 = a }

abbrev pub res : ℕ → Res
res r = record { 0 = r }

-- an item for each leg, and for each aircraft
abbrev pub each_leg : Situation → (Leg → Broken) → List Broken
each_leg I item = map (λ x. item (leg x)) (numbers (legs_of I))

abbrev pub each_plane : Situation → (Plane → Broken) → List Broken
each_plane I item = map (λ p. item (plane p)) (numbers (planes_of I))

-- the hours of the years 2000 to 2099
unfoldable pub all_hours : ℕ
all_hours = 876600

-- an item for each hour of each airport
abbrev pub each_hour : Situation → (Airport → ℕ → Broken) → List Broken
each_hour I item = flat_map (λ a. map (item (airport a)) (numbers all_hours)) (numbers (airports_of I))

-- an item for each cabin of each leg, and for each reservation
abbrev pub each_cabin : Situation → (Leg → Cabin → Broken) → List Broken
each_cabin I item = flat_map (λ x. item (leg x) F ∷ item (leg x) B ∷ item (leg x) E ∷ []) (numbers (legs_of I))

abbrev pub each_res : Situation → (Res → Broken) → List Broken
each_res I item = map (λ r. item (res r)) (numbers (reservations_of I))

-- the items of rotations, of hours and of passengers in their order: by rule, then by what they name
unfoldable pub rotation_items : Situation → List Broken
rotation_items I =
    each_leg I C1 ++ each_leg I C2 ++ each_leg I C3 ++ each_leg I C4 ++ each_leg I C5 ++ each_leg I C6 ++ each_leg I C7
    ++ each_plane I C8 ++ each_plane I C9

unfoldable pub slot_items : Situation → List Broken
slot_items I = each_hour I C10 ++ each_hour I C11

unfoldable pub pax_items : Situation → List Broken
pax_items I = each_cabin I C12 ++ each_res I C13 ++ each_res I C14 ++ each_res I C15

unfoldable pub items : Situation → List Broken
items I = rotation_items I ++ slot_items I ++ pax_items I

-- the first item that the plan breaks, of all rules, and of those of rotations, of slots and of passengers; it is feasible where there is none
unfoldable pub least : Situation → PlanRows → Option Broken
least I P = find (breaks I P) (items I)

unfoldable pub least_rot : Situation → PlanRows → Option Broken
least_rot I P = find (breaks I P) (rotation_items I)

unfoldable pub least_slots : Situation → PlanRows → Option Broken
least_slots I P = find (breaks I P) (slot_items I)

unfoldable pub least_pax : Situation → PlanRows → Option Broken
least_pax I P = find (breaks I P) (pax_items I)

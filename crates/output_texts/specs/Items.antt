-- The texts of legs, rows, paths and broken items. What is out of range has an empty name.
use Rattle.std.specs.Prelude.{ℕ, ◌/◌, ◌%◌, List, length, ◌++◌, codes, decimal}
use Rattle.std.specs.List.{flat_map}
use Rattle.desk_units.specs.declared.numbers.Leg.{Leg}
use Rattle.desk_units.specs.declared.numbers.Cabin.{Cabin}
use Rattle.desk_data.specs.declared.row.Row.{Row}
use Rattle.desk_data.specs.declared.row.Row.TheVariants.{Flown, Cancelled}
use Rattle.desk_data.specs.declared.broken.Broken.{Broken}
use Rattle.desk_data.specs.declared.broken.Broken.TheVariants.{C1, C2, C3, C4, C5, C6, C7, C8, C9, C10, C11, C12, C13, C14, C15}
use Rattle.desk_data.specs.Situation.{Situation, leg_at, plane_at, airport_at, res_at}
use Rattle.desk_text.specs.Texts.{date_text, moment_text, two_digits, cabin_text, direction_text}

-- FLIGHT DATE of a leg
unfoldable pub leg_text : Situation → ℕ → List ℕ
leg_text I x = (leg_at I x).flight ++ codes " " ++ date_text (leg_at I x).day

-- the row of a leg: + AIRCRAFT DATE TIME, or - where it is cancelled
unfoldable pub row_text : Situation → Row → List ℕ
row_text I (Flown plane dep) = codes "+ " ++ (plane_at I plane.0).name ++ codes " " ++ moment_text dep.0
row_text I Cancelled = codes "-"

-- AIRPORT DATE HH of an hour at an airport, hours counted from the start of day 0
unfoldable pub hour_text : Situation → ℕ → ℕ → List ℕ
hour_text I airport hour = (airport_at I airport).name ++ codes " " ++ date_text (hour / 24) ++ codes " " ++ two_digits (hour % 24)

-- FLIGHT DATE CABIN of a leg that passengers take, and their cabin
unfoldable pub seat_text : Situation → Leg × Cabin → List ℕ
seat_text I pair = leg_text I pair.0.0 ++ codes " " ++ cabin_text pair.1

-- a path: its number of legs, then each of them, after a space
unfoldable pub path_text : Situation → List (Leg × Cabin) → List ℕ
path_text I path = decimal (length path) ++ flat_map (λ pair. codes " " ++ seat_text I pair) path

-- RESERVATION TYPE of a reservation
unfoldable pub reservation_text : Situation → ℕ → List ℕ
reservation_text I r = (res_at I r).name ++ codes " " ++ direction_text (res_at I r).inbound

-- the rule and what breaks it
unfoldable pub broken_text : Situation → Broken → List ℕ
broken_text I (C1 leg) = codes "C1 " ++ leg_text I leg.0
broken_text I (C2 leg) = codes "C2 " ++ leg_text I leg.0
broken_text I (C3 leg) = codes "C3 " ++ leg_text I leg.0
broken_text I (C4 leg) = codes "C4 " ++ leg_text I leg.0
broken_text I (C5 leg) = codes "C5 " ++ leg_text I leg.0
broken_text I (C6 leg) = codes "C6 " ++ leg_text I leg.0
broken_text I (C7 leg) = codes "C7 " ++ leg_text I leg.0
broken_text I (C8 plane) = codes "C8 " ++ (plane_at I plane.0).name
broken_text I (C9 plane) = codes "C9 " ++ (plane_at I plane.0).name
broken_text I (C10 airport hour) = codes "C10 " ++ hour_text I airport.0 hour
broken_text I (C11 airport hour) = codes "C11 " ++ hour_text I airport.0 hour
broken_text I (C12 leg cabin) = codes "C12 " ++ leg_text I leg.0 ++ codes " " ++ cabin_text cabin
broken_text I (C13 res) = codes "C13 " ++ reservation_text I res.0
broken_text I (C14 res) = codes "C14 " ++ reservation_text I res.0
broken_text I (C15 res) = codes "C15 " ++ reservation_text I res.0

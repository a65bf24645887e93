-- A day as it is disrupted: the joined rows, the orders taken so far, and how far the day has gone on. Every word on it is
-- total: what is out of range is a row of nothing.
use Rattle.std.specs.Prelude.{ℕ, ◌+◌, max, Bool, false, ◌&&◌, ◌||◌, nat_lt, nat_le, ◌==◌, if◌then◌else◌, List, [], ◌∷◌, Option, Some, None, length, map, take, take_while, replicate, sum_by, find, fold, zip, slice_index_or, unwrap_or, is_none, is_some}
use Rattle.std.specs.List.{filter_map, prefix_len, starts_with}
use Rattle.desk_units.specs.declared.numbers.Cabin.{Cabin}
use Rattle.desk_units.specs.declared.numbers.Haul.TheVariants.{D}
use Rattle.desk_units.specs.declared.numbers.Leg.{Leg}
use Rattle.desk_units.specs.declared.numbers.Minute.{Minute}
use Rattle.day_orders.specs.declared.orders.Order.{Order}
use Rattle.day_orders.specs.LastOrders.{last_order_on_leg, span_of, span_after}
use Rattle.desk_data.specs.declared.info.LegInfo.{LegInfo}
use Rattle.desk_data.specs.declared.info.PlaneInfo.{PlaneInfo}
use Rattle.desk_data.specs.declared.info.ResInfo.{ResInfo}
use Rattle.desk_data.specs.declared.info.AirportInfo.{AirportInfo}
use Rattle.desk_data.specs.declared.parts.Parts.{Parts}
use Rattle.desk_data.specs.declared.row.Row.{Row}
use Rattle.desk_data.specs.declared.row.Row.TheVariants.{Flown, Cancelled}
use Rattle.desk_data.specs.declared.row.Group.{Group}
use Rattle.desk_units.specs.Ranks.{cabin_rank}
use Rattle.desk_data.specs.Paths.{is_carried}
use Rattle.desk_data.specs.PlanRows.{PlanRows, same_path}

-- some passengers of a reservation, by the legs of their path that have left
abbrev pub PassengersGone : Type 0
PassengersGone = List (Leg × Cabin) × ℕ

-- how far a day has gone on: up to which moment; by leg, the row with which it left or was given up, if it is frozen;
-- and by reservation, how many passengers have flown which frozen legs, in the order of paths
pub record Progress : Type 0 where
  pub now : Minute
  pub frozen : List (Option Row)
  pub tally : List (List PassengersGone)

-- a day as it is disrupted
pub record Situation : Type 0 where
  pub parts : Parts
  pub orders : List Order
  pub progress : Progress

-- ---- a day before any batch: its window begins, no leg has left, and no passenger has flown

abbrev pub all_waiting : ResInfo → List PassengersGone
all_waiting r = ([], r.count) ∷ []

unfoldable pub first_progress : Parts → Progress
first_progress parts = record { now = parts.from; frozen = replicate (length parts.legs) None; tally = map all_waiting parts.res }

abbrev pub fresh_day : Parts → Situation
fresh_day parts = record { parts = parts; orders = []; progress = first_progress parts }

-- how many there are
abbrev pub legs_of : Situation → ℕ
legs_of I = length I.parts.legs

abbrev pub planes_of : Situation → ℕ
planes_of I = length I.parts.planes

abbrev pub airports_of : Situation → ℕ
airports_of I = length I.parts.airports

abbrev pub reservations_of : Situation → ℕ
reservations_of I = length I.parts.res

-- rows of nothing
unfoldable pub no_leg : LegInfo
no_leg = record { flight = []; day = 0; origin = record { 0 = 0 }; dest = record { 0 = 0 }; sched = record { 0 = 0 }; block = 0; distance = 0; haul = D; plane = record { 0 = 0 }; prev = None }

unfoldable pub no_plane : PlaneInfo
no_plane = record { name = []; model = []; family = []; seats = record { f = 0; b = 0; e = 0 }; range = 0; hourly = record { 0 = 0 }; turnaround = 0; transit = 0; origin = record { 0 = 0 }; maint = None; surface = false }

unfoldable pub no_res : ResInfo
no_res = record { name = []; inbound = false; price = record { 0 = 0 }; count = 0; path = [] }

unfoldable pub no_airport : AirportInfo
no_airport = record { name = []; caps = [] }

-- the row of a number
abbrev pub leg_at : Situation → ℕ → LegInfo
leg_at I x = slice_index_or I.parts.legs x no_leg

abbrev pub plane_at : Situation → ℕ → PlaneInfo
plane_at I p = slice_index_or I.parts.planes p no_plane

abbrev pub res_at : Situation → ℕ → ResInfo
res_at I r = slice_index_or I.parts.res r no_res

abbrev pub airport_at : Situation → ℕ → AirportInfo
airport_at I a = slice_index_or I.parts.airports a no_airport

-- the minutes from airport a to airport b, where the day has a distance between them
abbrev pub distance : Situation → ℕ → ℕ → Option ℕ
distance I a b = slice_index_or (slice_index_or I.parts.dist a []) b None

-- the minutes by which the orders delay leg x
unfoldable pub delay_of : Option (Option ℕ) → ℕ
delay_of None = 0
delay_of (Some said) = unwrap_or said 0

unfoldable pub is_off : Option (Option ℕ) → Bool
is_off None = false
is_off (Some said) = is_none said

-- ---- what has left

-- the row with which leg x is frozen, if it is
abbrev pub frozen_at : Situation → ℕ → Option Row
frozen_at I x = slice_index_or I.progress.frozen x None

abbrev pub is_frozen : Situation → ℕ → Bool
is_frozen I x = is_some (frozen_at I x)

-- the moment up to which the day has gone on
abbrev pub now_of : Situation → ℕ
now_of I = I.progress.now.0

-- each leg, with the row with which it is frozen, if it is
abbrev pub legs_frozen : Situation → List (LegInfo × Option Row)
legs_frozen I = zip I.parts.legs I.progress.frozen

-- ---- legs

-- the departure of leg x by the orders: the scheduled one, with the delay of its last flight order where that is one
unfoldable pub ordered : Situation → ℕ → ℕ
ordered I x = (leg_at I x).sched.0 + delay_of (last_order_on_leg x I.orders)

-- whether the last flight order of leg x takes it out of the plan
unfoldable pub called_off : Situation → ℕ → Bool
called_off I x = is_off (last_order_on_leg x I.orders)

-- a leg is fixed if its scheduled aircraft is surface transport, if it is scheduled before the window, or if it is frozen. Any other is movable
unfoldable pub fixed : Situation → ℕ → Bool
fixed I x = (plane_at I (leg_at I x).plane.0).surface || nat_lt (leg_at I x).sched.0 I.parts.from.0 || is_frozen I x

-- the earliest departure of leg x: the ordered one, and for a movable leg not before now. The latest is two days after the ordered one, whatever now is
unfoldable pub earliest : Situation → ℕ → ℕ
earliest I x = if fixed I x then ordered I x else max (ordered I x) (now_of I)

unfoldable pub latest : Situation → ℕ → ℕ
latest I x = ordered I x + 2880

-- the row that a fixed leg should have where it is not frozen: it is cancelled if it is called off, and else flown by its scheduled aircraft at its earliest departure
abbrev pub ordered_row : Situation → ℕ → Row
ordered_row I x = if called_off I x then Cancelled else Flown (leg_at I x).plane (record { 0 = earliest I x })

-- the row that a fixed leg should have: the one with which it is frozen, if it is, and else the ordered one. A movable leg should have none
unfoldable pub due : Situation → ℕ → Option Row
due I x = if fixed I x then Some (unwrap_or (frozen_at I x) (ordered_row I x)) else None

-- ---- spans out of service

-- when a row lands aircraft p, whose leg takes so many minutes; 0 where it does not fly it
abbrev pub lands : ℕ → ℕ → Row → ℕ
lands p block (Flown plane dep) = if plane.0 == p then dep.0 + block else 0
lands p block Cancelled = 0

abbrev pub lands_frozen : ℕ → ℕ → Option Row → ℕ
lands_frozen p block None = 0
lands_frozen p block (Some row) = lands p block row

-- the last arrival of the frozen rows that fly aircraft p; 0 where there are none
abbrev pub landed : Situation → ℕ → ℕ
landed I p = fold (λ last pair. max last (lands_frozen p pair.0.block pair.1)) 0 (legs_frozen I)

-- the spans in which the orders put aircraft p out of service, in their order
unfoldable pub ordered_spans : Situation → ℕ → List (Minute × Minute)
ordered_spans I p = filter_map (span_of p) I.orders

-- the spans in which aircraft p is out of service, in the order of the orders: of each what is left after the aircraft's frozen rows have landed
unfoldable pub spans : Situation → ℕ → List (Minute × Minute)
spans I p = filter_map (span_after (landed I p)) (ordered_spans I p)

-- ---- passengers

-- how many legs at the start of the scheduled path of reservation r are all scheduled to depart before the window
unfoldable pub begun : Situation → ℕ → ℕ
begun I r = prefix_len (λ pair. nat_lt (leg_at I pair.0.0).sched.0 I.parts.from.0) (res_at I r).path

-- the longest beginning of a path whose legs are all frozen
abbrev pub gone_in : List (Option Row) → List (Leg × Cabin) → List (Leg × Cabin)
gone_in frozen path = take_while (λ pair. is_some (slice_index_or frozen pair.0.0 None)) path

abbrev pub gone : Situation → List (Leg × Cabin) → List (Leg × Cabin)
gone I path = gone_in I.progress.frozen path

-- of some groups, the carried passengers for whom just these legs have left, by these frozen rows
abbrev pub carried_gone : List (Option Row) → List Group → List (Leg × Cabin) → ℕ
carried_gone frozen groups legs = sum_by (λ group. if is_carried group.path && same_path (gone_in frozen group.path) legs then group.count else 0) groups

-- the tally of reservation r, and how many of its passengers have flown just these legs
abbrev pub tally_at : Situation → ℕ → List PassengersGone
tally_at I r = slice_index_or I.progress.tally r []

abbrev pub count_in : Option PassengersGone → ℕ
count_in None = 0
count_in (Some entry) = entry.1

abbrev pub count_gone : List PassengersGone → List (Leg × Cabin) → ℕ
count_gone entries legs = count_in (find (λ entry. same_path entry.0 legs) entries)

abbrev pub tallied : Situation → ℕ → List (Leg × Cabin) → ℕ
tallied I r legs = count_gone (tally_at I r) legs

-- whether two pairs are the same leg and the same cabin
abbrev pub same_pair : Leg × Cabin → Leg × Cabin → Bool
same_pair a b = a.0.0 == b.0.0 && cabin_rank a.1 == cabin_rank b.1

-- whether a path of reservation r begins with the legs of its scheduled path that have begun, in their cabins
abbrev pub begins_as_begun : Situation → ℕ → List (Leg × Cabin) → Bool
begins_as_begun I r path = starts_with same_pair path (take (begun I r) (res_at I r).path)

-- whether some passengers of reservation r have flown just what has left of a path, and no more of these groups are carried so than have
abbrev pub has_room_behind : Situation → ℕ → List Group → List (Leg × Cabin) → Bool
has_room_behind I r groups path =
    nat_le 1 (tallied I r (gone I path)) && nat_le (carried_gone I.progress.frozen groups (gone I path)) (tallied I r (gone I path))

-- whether a path of reservation r keeps to what has left, beside these groups
unfoldable pub bound : Situation → ℕ → List Group → List (Leg × Cabin) → Bool
bound I r groups path = begins_as_begun I r path && has_room_behind I r groups path

-- a leg as scheduled
abbrev pub scheduled_row : LegInfo → Row
scheduled_row leg = Flown leg.plane leg.sched

-- all passengers of a reservation on its scheduled path
abbrev pub groups_of : ResInfo → List Group
groups_of r = let group : Group = record { count = r.count; path = r.path } in group ∷ []

-- each leg as scheduled, and all passengers of each reservation on its scheduled path
unfoldable pub schedule : Situation → PlanRows
schedule I = record { rows = map scheduled_row I.parts.legs; groups = map groups_of I.parts.res }

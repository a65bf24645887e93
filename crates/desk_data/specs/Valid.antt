-- Which rows make an instance, and which plans are plans for it.
use Rattle.std.specs.Prelude.{◌≡◌, ◌≢◌, ℕ, ◌<◌, ◌≤◌, max, true, List, Option, None, length, All, sum_by, is_some, slice_index_or}
use Rattle.std.specs.List.{AllPairs}
use Rattle.std.specs.Option.{ForSome}
use Rattle.std.specs.declared.cmp.Ordering.TheVariants.{Less}
use Rattle.desk_units.specs.declared.numbers.Leg.{Leg}
use Rattle.desk_units.specs.declared.numbers.Cabin.{Cabin}
use Rattle.desk_units.specs.declared.numbers.Seats.{Seats}
use Rattle.day_orders.specs.declared.orders.Batch.{Batch}
use Rattle.day_orders.specs.declared.orders.Order.{Order}
use Rattle.day_orders.specs.declared.orders.Order.TheVariants.{Flight, Aircraft, Field}
use Rattle.tariff_prices.specs.Rows.{AreTariffRows, IsPrice}
use Rattle.desk_data.specs.declared.info.LegInfo.{LegInfo}
use Rattle.desk_data.specs.declared.info.PlaneInfo.{PlaneInfo}
use Rattle.desk_data.specs.declared.info.Maint.{Maint}
use Rattle.desk_data.specs.declared.info.ResInfo.{ResInfo}
use Rattle.desk_data.specs.declared.info.Cap.{Cap}
use Rattle.desk_data.specs.declared.info.AirportInfo.{AirportInfo}
use Rattle.desk_data.specs.declared.info.PositionInfo.{PositionInfo}
use Rattle.desk_data.specs.declared.parts.Parts.{Parts}
use Rattle.desk_data.specs.declared.row.Row.{Row}
use Rattle.desk_data.specs.declared.row.Row.TheVariants.{Flown, Cancelled}
use Rattle.desk_data.specs.declared.row.Group.{Group}
use Rattle.desk_data.specs.PlanRows.{PlanRows, IsSound, groups_at, path_cmp}
use Rattle.desk_data.specs.Situation.{Situation, Progress, PassengersGone, legs_of, planes_of, first_progress, reservations_of, res_at}

-- the bytes of a name can be seen: from ! to ~
abbrev pub IsSeen : List ℕ → Type 0
IsSeen name = All (λ byte. (0x21 ≤ byte) × (byte ≤ 0x7e)) name

-- a moment is within the hundred years from 2000
abbrev pub IsMoment : ℕ → Type 0
IsMoment at = at < 52596000

-- the legs of a path are among n legs
abbrev pub IsPathOf : ℕ → List (Leg × Cabin) → Type 0
IsPathOf n path = All (λ pair. pair.0.0 < n) path

pub record AreSeats (seats : Seats) : Type 0 where
  pub f : seats.f ≤ 999
  pub b : seats.b ≤ 999
  pub e : seats.e ≤ 999

pub record IsCap (cap : Cap) : Type 0 where
  pub deps : cap.deps ≤ 100000
  pub arrs : cap.arrs ≤ 100000
  pub from : cap.from < 1440
  pub to : cap.to ≤ 1440

pub record IsAirport (airport : AirportInfo) : Type 0 where
  pub name : IsSeen airport.name
  pub caps : All IsCap airport.caps

pub record IsMaint (airports : ℕ) (maint : Maint) : Type 0 where
  pub airport : maint.airport.0 < airports
  pub from : IsMoment maint.from.0
  pub to : IsMoment maint.to.0
  pub minutes : maint.minutes ≤ 100000

pub record IsPlane (airports : ℕ) (plane : PlaneInfo) : Type 0 where
  pub name : IsSeen plane.name
  pub model : IsSeen plane.model
  pub family : IsSeen plane.family
  pub seats : AreSeats plane.seats
  pub range : plane.range ≤ 100000
  pub hourly : IsPrice plane.hourly.0
  pub turnaround : plane.turnaround ≤ 2880
  pub transit : plane.transit ≤ 2880
  pub origin : plane.origin.0 < airports
  pub maint : ForSome plane.maint (IsMaint airports)

pub record IsLeg (airports planes legs : ℕ) (leg : LegInfo) : Type 0 where
  pub flight : IsSeen leg.flight
  pub day : leg.day < 36525
  pub origin : leg.origin.0 < airports
  pub dest : leg.dest.0 < airports
  pub sched : leg.sched.0 ≤ 52480000
  pub some : 1 ≤ leg.block
  pub block : leg.block ≤ 2880
  pub distance : leg.distance ≤ 100000
  pub plane : leg.plane.0 < planes
  pub prev : ForSome leg.prev (λ prev. prev.0 < legs)

pub record IsReservation (legs : ℕ) (r : ResInfo) : Type 0 where
  pub name : IsSeen r.name
  pub price : IsPrice r.price.0
  pub some : 1 ≤ r.count
  pub count : r.count ≤ 1000
  pub starts : 1 ≤ length r.path
  pub short : length r.path ≤ 8
  pub path : IsPathOf legs r.path

pub record IsPosition (airports : ℕ) (position : PositionInfo) : Type 0 where
  pub airport : position.airport.0 < airports
  pub model : IsSeen position.model
  pub seats : AreSeats position.seats
  pub count : position.count ≤ 1000

-- a distance is at most 100,000 minutes, where there is one
abbrev pub IsDistance : Option ℕ → Type 0
IsDistance distance = ForSome distance (λ minutes. minutes ≤ 100000)

-- no two are named alike
pub record AreDistinct (parts : Parts) : Type 0 where
  pub airports : AllPairs (λ a b. a.name ≢ b.name) parts.airports
  pub planes : AllPairs (λ a b. a.name ≢ b.name) parts.planes
  -- legs are named by flight and day, reservations by name and direction
  pub legs : AllPairs (λ a b. a.flight ≡ b.flight → a.day ≢ b.day) parts.legs
  pub res : AllPairs (λ a b. a.name ≡ b.name → a.inbound ≢ b.inbound) parts.res

-- no list is longer than its limit
pub record AreWithinLimits (parts : Parts) : Type 0 where
  pub airports : length parts.airports ≤ 500
  pub planes : length parts.planes ≤ 1000
  pub legs : length parts.legs ≤ 20000
  pub res : length parts.res ≤ 100000
  pub positions : length parts.positions ≤ 10000

-- rows that make an instance
pub record AreParts (parts : Parts) : Type 0 where
  pub few : AreWithinLimits parts
  pub airports : All IsAirport parts.airports
  pub planes : All (IsPlane (length parts.airports)) parts.planes
  pub legs : All (IsLeg (length parts.airports) (length parts.planes) (length parts.legs)) parts.legs
  pub res : All (IsReservation (length parts.legs)) parts.res
  pub from : IsMoment parts.from.0
  pub to : IsMoment parts.to.0
  pub positions : All (IsPosition (length parts.airports)) parts.positions
  pub dist : All (λ row. All IsDistance row) parts.dist
  pub tariff : AreTariffRows parts.tariff.rows
  pub distinct : AreDistinct parts

-- an order that an instance can take
abbrev pub IsOrder : Parts → Order → Type 0
IsOrder parts (Flight leg delay) = (leg.0 < length parts.legs) × ForSome delay (λ minutes. minutes ≤ 2880)
IsOrder parts (Aircraft plane from to) = plane.0 < length parts.planes
IsOrder parts (Field airport from to deps arrs) = airport.0 < length parts.airports

-- a batch that an instance can take: its orders are about what there is, and its moment is no later than the last scheduled departure may be
pub record IsBatch (parts : Parts) (batch : Batch) : Type 0 where
  pub orders : All (IsOrder parts) batch.orders
  pub at : ForSome batch.at (λ at. at.0 ≤ 52480000)

-- a row for n aircraft
abbrev pub IsRowOf : ℕ → Row → Type 0
IsRowOf planes (Flown plane dep) = (plane.0 < planes) × (dep.0 < 52500000)
IsRowOf planes Cancelled = Unit {0}

-- an entry of a tally is of passengers, and of frozen legs, at most 8
pub record IsTallied (frozen : List (Option Row)) (entry : PassengersGone) : Type 0 where
  pub some : 1 ≤ entry.1
  pub few : entry.1 ≤ 1000
  pub short : length entry.0 ≤ 8
  pub left : All (λ pair. is_some (slice_index_or frozen pair.0.0 None) ≡ true) entry.0

-- the tally of a reservation: its entries are in the order of paths, no list of legs twice
pub record AreTallied (frozen : List (Option Row)) (entries : List PassengersGone) : Type 0 where
  pub each : All (IsTallied frozen) entries
  pub ascending : AllPairs (λ a b. path_cmp a.0 b.0 ≡ Less) entries

-- what is kept of how far a day has gone on
pub record IsProgress (parts : Parts) (progress : Progress) : Type 0 where
  pub legs : length progress.frozen ≡ length parts.legs
  pub rows : All (λ frozen. ForSome frozen (IsRowOf (length parts.planes))) progress.frozen
  pub res : length progress.tally ≡ length parts.res
  pub tallied : All (AreTallied progress.frozen) progress.tally
  -- time goes on from the window's start, and by batches no further than their moments may be
  pub started : parts.from.0 ≤ progress.now.0
  pub soon : progress.now.0 ≤ max parts.from.0 52480000
  -- as long as no time has passed, nothing has left
  pub fresh : progress.now ≡ parts.from → progress ≡ first_progress parts

-- what every instance keeps
pub record IsValid (I : Situation) : Type 0 where
  pub parts : AreParts I.parts
  pub orders : All (IsOrder I.parts) I.orders
  pub progress : IsProgress I.parts I.progress

-- groups whose paths are among the legs, and that have all passengers of the reservation
pub record AreGroupsOf (legs count : ℕ) (groups : List Group) : Type 0 where
  pub paths : All (λ group. IsPathOf legs group.path) groups
  pub all : sum_by (λ group. group.count) groups ≡ count

-- a plan for the instance
pub record IsPlanFor (I : Situation) (P : PlanRows) : Type 0 where
  pub sound : IsSound P
  pub legs : length P.rows ≡ legs_of I
  pub res : length P.groups ≡ reservations_of I
  pub rows : All (IsRowOf (planes_of I)) P.rows
  pub groups : (r : ℕ) → r < reservations_of I → AreGroupsOf (legs_of I) (res_at I r).count (groups_at P r)

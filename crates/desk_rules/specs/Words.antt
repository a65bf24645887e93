-- The rules in words: what the tests of a plan say, as facts.
--
-- The letters, here and in the files of tests:
--   I  the day as it is disrupted, with its orders       P  the rows and groups of a plan
--   x, y, z  numbers of legs                             p  the number of an aircraft
--   a  the number of an airport                          r  the number of a reservation
--   d, dep, later  departures, at  a moment: minutes     h  an hour: a moment divided by 60, rounded down
--   c  a cabin                                           i  a place in a path, from 0
-- Numbers of legs and the like are from 0 to one less than there are. A pair of a path is a leg and a cabin.
use Rattle.std.specs.Prelude.{◌≡◌, ℕ, ◌+◌, ◌*◌, ◌<◌, ◌≤◌, ◌⊎◌, false, List, [], ◌∷◌, ◌++◌, length, All, Some, slice_index_or}
use Rattle.desk_units.specs.declared.numbers.Leg.{Leg}
use Rattle.desk_units.specs.declared.numbers.Cabin.{Cabin}
use Rattle.desk_units.specs.declared.numbers.Haul.{Haul}
use Rattle.desk_units.specs.declared.numbers.Haul.TheVariants as haul
use Rattle.desk_units.specs.declared.numbers.Minute.{Minute}
use Rattle.desk_units.specs.Ranks.{cabin_rank, haul_rank}
use Rattle.desk_data.specs.declared.row.Row.{Row}
use Rattle.desk_data.specs.declared.row.Row.TheVariants.{Flown}
use Rattle.desk_data.specs.declared.info.Maint.{Maint}
use Rattle.desk_data.specs.declared.broken.Broken.{Broken}
use Rattle.desk_data.specs.declared.broken.Broken.TheVariants.{C1, C2, C3, C4, C5, C6, C7, C8, C9, C10, C11, C12, C13, C14, C15}
use Rattle.desk_data.specs.Situation.{Situation, legs_of, planes_of, airports_of, reservations_of, leg_at, plane_at, fixed, called_off, earliest, latest, due, spans}
use Rattle.desk_data.specs.Begun.{KeepsToLeft}
use Rattle.desk_data.specs.Hours.{dep_cap, arr_cap}
use Rattle.desk_data.specs.PlanRows.{PlanRows, row_at, groups_at}
use Rattle.desk_rules.specs.Rotations.{dep, arr, ground_time}
use Rattle.desk_rules.specs.Maintenance.{minutes_before}
use Rattle.desk_rules.specs.Slots.{departures, arrivals}
use Rattle.desk_data.specs.Paths.{no_pair, leg_in, first_leg, last_leg}
use Rattle.desk_data.specs.Booked.{origin_of, dest_of, booked_departure, booked_arrival, haul_of}
use Rattle.desk_rules.specs.Passengers.{aboard, seats_in, arrival_of}
use Rattle.desk_rules.specs.Least.{items, all_hours}

-- aircraft p flies leg x, departing at d
abbrev pub Flies : PlanRows → ℕ → ℕ → ℕ → Type 0
Flies P x p d = row_at P x ≡ Flown (record { 0 = p }) (record { 0 = d })

-- one aircraft flies both legs, and x departs first; of two that depart together the lesser number comes first
pub record Precedes (P : PlanRows) (x y : ℕ) : Type 0 where
  pub plane : ℕ
  pub dep : ℕ
  pub later : ℕ
  pub first : Flies P x plane dep
  pub second : Flies P y plane later
  pub order : (dep < later) ⊎ ((dep ≡ later) × (x < y))

-- y is the next leg after x: no third leg of the aircraft lies between
pub record Follows (I : Situation) (P : PlanRows) (x y : ℕ) : Type 0 where
  pub before : Precedes P x y
  pub next : (z : ℕ) → z < legs_of I → Precedes P x z → Precedes P z y → ⊥

-- no leg of the aircraft comes before y
abbrev pub IsFirst : Situation → PlanRows → ℕ → Type 0
IsFirst I P y = (x : ℕ) → x < legs_of I → Precedes P x y → ⊥

-- C1: a fixed leg has the row that is due: the one with which it is frozen, if it is; else cancelled if it is called off, else flown by its scheduled aircraft at its earliest departure
abbrev pub MeetsC1 : Situation → PlanRows → ℕ → Type 0
MeetsC1 I P x = (row : Row) → due I x ≡ Some row → row_at P x ≡ row

-- C2: a movable leg that is flown is not called off, and departs from its earliest to its latest departure
abbrev pub MeetsC2 : Situation → PlanRows → ℕ → Type 0
MeetsC2 I P x = fixed I x ≡ false → (p d : ℕ) → Flies P x p d → (called_off I x ≡ false) × (earliest I x ≤ d) × (d ≤ latest I x)

-- C3: a flown leg's aircraft is of the family of its scheduled aircraft
abbrev pub MeetsC3 : Situation → PlanRows → ℕ → Type 0
MeetsC3 I P x = (p d : ℕ) → Flies P x p d → (plane_at I p).family ≡ (plane_at I (leg_at I x).plane.0).family

-- C4: a flown leg is within its aircraft's range
abbrev pub MeetsC4 : Situation → PlanRows → ℕ → Type 0
MeetsC4 I P x = (p d : ℕ) → Flies P x p d → (leg_at I x).distance ≤ (plane_at I p).range

-- C5: the first leg of an aircraft leaves the aircraft's origin
-- and each follower leaves where the leg before it arrived
pub record KeepsLocation (I : Situation) (P : PlanRows) (y p : ℕ) : Type 0 where
  pub first : IsFirst I P y → (leg_at I y).origin.0 ≡ (plane_at I p).origin.0
  pub follower : (x : ℕ) → x < legs_of I → Follows I P x y → (leg_at I y).origin.0 ≡ (leg_at I x).dest.0

abbrev pub MeetsC5 : Situation → PlanRows → ℕ → Type 0
MeetsC5 I P y = (p d : ℕ) → Flies P y p d → (plane_at I p).surface ≡ false → KeepsLocation I P y p

-- C6: a follower departs no earlier than the leg before it arrived and the ground time is over
abbrev pub MeetsC6 : Situation → PlanRows → ℕ → Type 0
MeetsC6 I P y = (p d : ℕ) → Flies P y p d → (plane_at I p).surface ≡ false → (x : ℕ) → x < legs_of I → Follows I P x y → arr I P x + ground_time I p x y ≤ d

-- leg x, departing at d, meets a span: it departs before the span's end, and the span starts before it arrives
pub record MeetsSpan (I : Situation) (x d : ℕ) (from to : Minute) : Type 0 where
  pub before_end : d < to.0
  pub after_start : from.0 < d + (leg_at I x).block

-- C7: no leg meets a span in which its aircraft is out of service
abbrev pub MeetsC7 : Situation → PlanRows → ℕ → Type 0
MeetsC7 I P x = (p d : ℕ) → Flies P x p d → (plane_at I p).surface ≡ false → All (λ span. MeetsSpan I x d span.0 span.1 → ⊥) (spans I p)

-- leg x is the last leg of aircraft p that departs before a moment
pub record IsLastBefore (I : Situation) (P : PlanRows) (p at x : ℕ) : Type 0 where
  pub dep : ℕ
  pub flown : Flies P x p dep
  pub before : dep < at
  pub last : (z d : ℕ) → z < legs_of I → Flies P z p d → d < at → Precedes P x z → ⊥

-- the aircraft makes its maintenance: none of its legs meets it, and its last leg before it arrived at the maintenance's airport; where there is none, the aircraft began there
pub record MakesMaintenance (I : Situation) (P : PlanRows) (p : ℕ) (maint : Maint) : Type 0 where
  pub free : (x d : ℕ) → x < legs_of I → Flies P x p d → MeetsSpan I x d maint.from maint.to → ⊥
  pub left : (x : ℕ) → x < legs_of I → IsLastBefore I P p maint.from.0 x → (leg_at I x).dest.0 ≡ maint.airport.0
  pub began : ((x d : ℕ) → x < legs_of I → Flies P x p d → d < maint.from.0 → ⊥) → (plane_at I p).origin.0 ≡ maint.airport.0

-- C8: an aircraft that flies a leg from the start of its maintenance on makes it
abbrev pub MeetsC8 : Situation → PlanRows → ℕ → Type 0
MeetsC8 I P p =
    (plane_at I p).surface ≡ false → (maint : Maint) → (plane_at I p).maint ≡ Some maint
    → (x d : ℕ) → x < legs_of I → Flies P x p d → maint.from.0 ≤ d → MakesMaintenance I P p maint

-- leg x of aircraft p departs before a moment
pub record DepartsBefore (P : PlanRows) (p at x : ℕ) : Type 0 where
  pub dep : ℕ
  pub flown : Flies P x p dep
  pub before : dep < at

-- C9: an aircraft flies at most the stated block minutes before its maintenance
abbrev pub MeetsC9 : Situation → PlanRows → ℕ → Type 0
MeetsC9 I P p = (plane_at I p).surface ≡ false → (maint : Maint) → (plane_at I p).maint ≡ Some maint → minutes_before I P p maint.from.0 ≤ maint.minutes

-- an aircraft that is no surface transport flies leg x from airport a, and departs in hour h
pub record DepartsIn (I : Situation) (P : PlanRows) (a h x : ℕ) : Type 0 where
  pub plane : ℕ
  pub dep : ℕ
  pub flown : Flies P x plane dep
  pub air : (plane_at I plane).surface ≡ false
  pub airport : (leg_at I x).origin.0 ≡ a
  pub from : 60 * h ≤ dep
  pub to : dep < 60 * h + 60

-- the same of its arrival
pub record ArrivesIn (I : Situation) (P : PlanRows) (a h x : ℕ) : Type 0 where
  pub plane : ℕ
  pub dep : ℕ
  pub flown : Flies P x plane dep
  pub air : (plane_at I plane).surface ≡ false
  pub airport : (leg_at I x).dest.0 ≡ a
  pub from : 60 * h ≤ dep + (leg_at I x).block
  pub to : dep + (leg_at I x).block < 60 * h + 60

-- C10 and C11: the departures from an airport in an hour, and the arrivals there, are at most its cap
abbrev pub MeetsC10 : Situation → PlanRows → ℕ → ℕ → Type 0
MeetsC10 I P a h = (cap : ℕ) → dep_cap I a h ≡ Some cap → departures I P a h ≤ cap

abbrev pub MeetsC11 : Situation → PlanRows → ℕ → ℕ → Type 0
MeetsC11 I P a h = (cap : ℕ) → arr_cap I a h ≡ Some cap → arrivals I P a h ≤ cap

-- a path has leg x in cabin c
pub record HasLeg (path : List (Leg × Cabin)) (x : ℕ) (c : Cabin) : Type 0 where
  pub place : ℕ
  pub within : place < length path
  pub pair : slice_index_or path place no_pair ≡ (record { 0 = x }, c)

-- C12: the passengers of a flown leg in a cabin are no more than its aircraft's seats there
abbrev pub MeetsC12 : Situation → PlanRows → ℕ → Cabin → Type 0
MeetsC12 I P x c = (p d : ℕ) → Flies P x p d → aboard P x c ≤ seats_in (plane_at I p).seats c

-- one aircraft flies leg x and leg y, and x is the previous leg of y: passengers stay aboard
pub record StaysAboard (I : Situation) (P : PlanRows) (x y : ℕ) : Type 0 where
  pub plane : ℕ
  pub dep : ℕ
  pub later : ℕ
  pub first : Flies P x plane dep
  pub second : Flies P y plane later
  pub previous : (leg_at I y).prev ≡ Some (record { 0 = x })

-- passengers of leg x go on with leg y: it leaves where x arrived, at least 30 minutes after that, or at once where they stay aboard
pub record GoesOn (I : Situation) (P : PlanRows) (x y : ℕ) : Type 0 where
  pub place : (leg_at I y).origin.0 ≡ (leg_at I x).dest.0
  pub time : (arr I P x + 30 ≤ dep P y) ⊎ (StaysAboard I P x y × (arr I P x ≤ dep P y))

-- leg x is flown
pub record IsFlown (P : PlanRows) (x : ℕ) : Type 0 where
  pub plane : ℕ
  pub dep : ℕ
  pub flown : Flies P x plane dep

-- a path takes passengers of reservation r where they want to go: each leg is flown, it runs from their origin to their destination, each leg goes on from the one before, and the first leaves no earlier than booked
pub record TakesThere (I : Situation) (P : PlanRows) (r : ℕ) (path : List (Leg × Cabin)) : Type 0 where
  pub flown : All (λ pair. IsFlown P pair.0.0) path
  pub origin : (leg_at I (first_leg path)).origin.0 ≡ origin_of I r
  pub dest : (leg_at I (last_leg path)).dest.0 ≡ dest_of I r
  pub goes_on : (i : ℕ) → i + 1 < length path → GoesOn I P (leg_in path i) (leg_in path (i + 1))
  pub departs : booked_departure I r ≤ dep P (first_leg path)

-- what holds of each path on which passengers of reservation r are carried
abbrev pub EachCarried : PlanRows → ℕ → (List (Leg × Cabin) → Type 0) → Type 0
EachCarried P r holds = All (λ group. (group.path ≡ [] → ⊥) → holds group.path) (groups_at P r)

-- C13: a carried path takes its passengers there
abbrev pub MeetsC13 : Situation → PlanRows → ℕ → Type 0
MeetsC13 I P r = EachCarried P r (TakesThere I P r)

-- a path arrives at most 1,080 minutes after the booked arrival, or 2,160 where the haul is intercontinental
pub record ArrivesInTime (I : Situation) (P : PlanRows) (r : ℕ) (path : List (Leg × Cabin)) : Type 0 where
  pub near : (haul_of I r ≡ haul.I → ⊥) → arrival_of I P path ≤ booked_arrival I r + 1080
  pub far : haul_of I r ≡ haul.I → arrival_of I P path ≤ booked_arrival I r + 2160

-- C14: a carried path whose legs are all flown arrives in time
abbrev pub MeetsC14 : Situation → PlanRows → ℕ → Type 0
MeetsC14 I P r = EachCarried P r (λ path. All (λ pair. IsFlown P pair.0.0) path → ArrivesInTime I P r path)

-- C15: a carried path keeps to what has left, beside the groups of its reservation: it begins with the legs of the booked path that have begun, in their cabins; some passengers have flown just those of its legs that are frozen; and no more of the groups are carried so than have
abbrev pub MeetsC15 : Situation → PlanRows → ℕ → Type 0
MeetsC15 I P r = EachCarried P r (KeepsToLeft I r (groups_at P r))

-- what an item asks
abbrev pub Meets : Situation → PlanRows → Broken → Type 0
Meets I P (C1 leg) = MeetsC1 I P leg.0
Meets I P (C2 leg) = MeetsC2 I P leg.0
Meets I P (C3 leg) = MeetsC3 I P leg.0
Meets I P (C4 leg) = MeetsC4 I P leg.0
Meets I P (C5 leg) = MeetsC5 I P leg.0
Meets I P (C6 leg) = MeetsC6 I P leg.0
Meets I P (C7 leg) = MeetsC7 I P leg.0
Meets I P (C8 plane) = MeetsC8 I P plane.0
Meets I P (C9 plane) = MeetsC9 I P plane.0
Meets I P (C10 airport hour) = MeetsC10 I P airport.0 hour
Meets I P (C11 airport hour) = MeetsC11 I P airport.0 hour
Meets I P (C12 leg cabin) = MeetsC12 I P leg.0 cabin
Meets I P (C13 res) = MeetsC13 I P res.0
Meets I P (C14 res) = MeetsC14 I P res.0
Meets I P (C15 res) = MeetsC15 I P res.0

-- a plan that breaks no rule
pub record IsFeasible (I : Situation) (P : PlanRows) : Type 0 where
  pub c1 : (x : ℕ) → x < legs_of I → MeetsC1 I P x
  pub c2 : (x : ℕ) → x < legs_of I → MeetsC2 I P x
  pub c3 : (x : ℕ) → x < legs_of I → MeetsC3 I P x
  pub c4 : (x : ℕ) → x < legs_of I → MeetsC4 I P x
  pub c5 : (x : ℕ) → x < legs_of I → MeetsC5 I P x
  pub c6 : (x : ℕ) → x < legs_of I → MeetsC6 I P x
  pub c7 : (x : ℕ) → x < legs_of I → MeetsC7 I P x
  pub c8 : (p : ℕ) → p < planes_of I → MeetsC8 I P p
  pub c9 : (p : ℕ) → p < planes_of I → MeetsC9 I P p
  pub c10 : (a h : ℕ) → a < airports_of I → h < all_hours → MeetsC10 I P a h
  pub c11 : (a h : ℕ) → a < airports_of I → h < all_hours → MeetsC11 I P a h
  pub c12 : (x : ℕ) (c : Cabin) → x < legs_of I → MeetsC12 I P x c
  pub c13 : (r : ℕ) → r < reservations_of I → MeetsC13 I P r
  pub c14 : (r : ℕ) → r < reservations_of I → MeetsC14 I P r
  pub c15 : (r : ℕ) → r < reservations_of I → MeetsC15 I P r

-- the item is broken, and no item before it is
pub record IsLeast (I : Situation) (P : PlanRows) (item : Broken) : Type 0 where
  pub before : List Broken
  pub after : List Broken
  pub place : items I ≡ before ++ item ∷ after
  pub kept : All (Meets I P) before
  pub broken : Meets I P item → ⊥

-- the haul of one of a path's legs
pub record IsHaulIn (I : Situation) (path : List (Leg × Cabin)) (h : Haul) : Type 0 where
  pub place : ℕ
  pub within : place < length path
  pub same : (leg_at I (leg_in path place)).haul ≡ h

-- the cabin of one of a path's legs
pub record IsCabinIn (path : List (Leg × Cabin)) (c : Cabin) : Type 0 where
  pub place : ℕ
  pub within : place < length path
  pub same : (slice_index_or path place no_pair).1 ≡ c

-- the haul of one of a path's legs, and none of them has a higher one
pub record IsHighestHaul (I : Situation) (path : List (Leg × Cabin)) (h : Haul) : Type 0 where
  pub one : IsHaulIn I path h
  pub highest : All (λ pair. haul_rank (leg_at I pair.0.0).haul ≤ haul_rank h) path

-- the cabin of one of a path's legs, and none of them is in a higher one: of two cabins the one of lesser rank is higher
pub record IsHighestCabin (path : List (Leg × Cabin)) (c : Cabin) : Type 0 where
  pub one : IsCabinIn path c
  pub highest : All (λ pair. cabin_rank c ≤ cabin_rank pair.1) path

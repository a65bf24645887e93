-- The hours of the airports, and how many legs depart and arrive in each.
use Rattle.std.specs.Prelude.{◌≡◌, ℕ, ◌+◌, ◌-◌, ◌≤◌, ◌⊎◌, IsSome, Bool, true, false, ◌&&◌, not, nat_lt, ◌==◌, if◌then◌else◌, List, Option, Some, None, cond}
use Rattle.std.specs.List.{Contains, count_by}
use Rattle.std.specs.Map.{lookup}
use Rattle.desk_data.specs.declared.broken.Broken.{Broken}
use Rattle.desk_data.specs.declared.row.Row.{Row}
use Rattle.desk_data.specs.declared.row.Row.TheVariants.{Flown, Cancelled}
use Rattle.desk_data.specs.Situation.{Situation, legs_of, leg_at, plane_at}
use Rattle.desk_data.specs.PlanRows.{PlanRows, row_at}
use Rattle.desk_rules.specs.Numbers.{numbers}
use Rattle.desk_rules.specs.Rotations.{departure}
use Rattle.desk_rules.specs.Slots.{is_in_the_air, hour_of}
use Rattle.hour_counts.specs.Counts.{one_if, departs_at, arrives_at}
use Rattle.hour_counts.specs.Slots.{is_slot, IsSlot, cap, item}
use Rattle.kept_set.specs.Kept.{OrderedItems}
use Rattle.board_kit.specs.declared.slot.By.{By}
use Rattle.board_kit.specs.declared.slot.By.TheVariants.{Flyer, Schedule}
use Rattle.board_kit.specs.declared.slot.SlotUse.{SlotUse}
use Rattle.hour_counts.specs.declared.slot.Slot.{Slot}
use Rattle.board_kit.specs.declared.slot.SlotLoad.{SlotLoad}
use Rattle.hour_counts.specs.declared.slot.Movement.{Movement}
use Rattle.hour_counts.specs.declared.slot.Movement.TheVariants.{Departure, Arrival}

-- ---- what a plan takes

-- whether leg x takes a slot by its row: by the aircraft that flies it, as C10 and C11 count, or by its scheduled aircraft, as Push does
abbrev pub takes_for : By → Movement → Situation → ℕ → ℕ → ℕ → Row → Bool
takes_for Flyer Departure I a h x row = is_in_the_air I row && (((leg_at I x).origin.0 == a) && (hour_of (departure row) == h))
takes_for Flyer Arrival I a h x row = is_in_the_air I row && (((leg_at I x).dest.0 == a) && (hour_of (departure row + (leg_at I x).block) == h))
takes_for Schedule Departure I a h x row = departs_at I a h x row
takes_for Schedule Arrival I a h x row = arrives_at I a h x row

abbrev pub takes : By → Situation → Slot → ℕ → Row → Bool
takes by I s x row = takes_for by s.movement I s.airport.0 s.hour x row

-- how many of the first n legs of a plan take a slot, and how many of all
abbrev pub taken_first : ℕ → Situation → PlanRows → By → Slot → ℕ
taken_first n I P by s = count_by (λ x. takes by I s x (row_at P x)) (numbers n)

abbrev pub taken : Situation → PlanRows → By → Slot → ℕ
taken I P by s = taken_first (legs_of I) I P by s

-- the two slots of a row, if its leg is flown, and by which aircraft it counts there
abbrev pub slots_of : Situation → ℕ → Row → Option SlotUse
slots_of I x (Flown plane dep) =
    Some (record {
      from = record { movement = Departure; airport = (leg_at I x).origin; hour = hour_of dep.0 };
      to = record { movement = Arrival; airport = (leg_at I x).dest; hour = hour_of (dep.0 + (leg_at I x).block) };
      by_flyer = not (plane_at I plane.0).surface;
      by_schedule = not (plane_at I (leg_at I x).plane.0).surface;
    })
slots_of I x Cancelled = None

abbrev pub counts_by : By → SlotUse → Bool
counts_by Flyer t = t.by_flyer
counts_by Schedule t = t.by_schedule

-- how often a row takes a slot
abbrev pub among : By → Option SlotUse → Slot → ℕ
among by None s = 0
among by (Some t) s = one_if (counts_by by t && is_slot t.from s) + one_if (counts_by by t && is_slot t.to s)

-- ---- loads

-- how many legs take each slot that is known, and the items of the overfull slots
pub record LoadRows : Type 0 where
  pub loads : List (Slot × SlotLoad)
  pub over : OrderedItems Broken

abbrev pub load_at : List (Slot × SlotLoad) → Slot → Option SlotLoad
load_at loads s = lookup (is_slot s) loads

abbrev pub load_count : By → SlotLoad → ℕ
load_count Flyer load = load.by_flyer
load_count Schedule load = load.by_schedule

-- no leg takes a slot that is not known
abbrev pub count_of : By → Option SlotLoad → ℕ
count_of by None = 0
count_of by (Some load) = load_count by load

abbrev pub is_above : ℕ → Option ℕ → Bool
is_above count None = false
is_above count (Some cap) = nat_lt cap count

abbrev pub is_over : SlotLoad → Bool
is_over load = is_above load.by_flyer load.cap

-- the items are those of the overfull slots
pub record AreOver (loads : List (Slot × SlotLoad)) (items : List Broken) : Type 0 where
  pub sound : (y : Broken) → Contains items y → (s : Slot) × (load : SlotLoad) × (load_at loads s ≡ Some load) × (is_over load ≡ true) × (y ≡ item s)
  pub whole : (s : Slot) (load : SlotLoad) → load_at loads s ≡ Some load → is_over load ≡ true → Contains items (item s)

-- each slot is taken as often as n says, with the caps of the day
pub record AreCounted (I : Situation) (n : By → Slot → ℕ) (loads : List (Slot × SlotLoad)) : Type 0 where
  pub counts : (by : By) (s : Slot) → count_of by (load_at loads s) ≡ n by s
  pub caps : (s : Slot) (load : SlotLoad) → load_at loads s ≡ Some load → load.cap ≡ cap I s
  pub slots : (s : Slot) (load : SlotLoad) → load_at loads s ≡ Some load → IsSlot I s

-- the slots of a row are known; they are slots of the day
abbrev pub AreKnown : List (Slot × SlotLoad) → Option SlotUse → Type 0
AreKnown loads None = Unit {0}
AreKnown loads (Some t) = IsSome (load_at loads t.from) × IsSome (load_at loads t.to)

abbrev pub AreSlots : Situation → Option SlotUse → Type 0
AreSlots I None = Unit {0}
AreSlots I (Some t) = IsSlot I t.from × IsSlot I t.to

abbrev pub KeepsKnown : List (Slot × SlotLoad) → List (Slot × SlotLoad) → Type 0
KeepsKnown old new = (s : Slot) → IsSome (load_at old s) → IsSome (load_at new s)

-- a slot is known besides, which no leg takes
abbrev pub Learns : List (Slot × SlotLoad) → List (Slot × SlotLoad) → Slot → Option ℕ → Type 0
Learns old new s c = (q : Slot) → (load_at new q ≡ load_at old q) ⊎ ((q ≡ s) × (load_at old q ≡ None) × (load_at new q ≡ Some (record { by_flyer = 0; by_schedule = 0; cap = c })))

-- more slots are known, and no count changes
pub record IsReady (I : Situation) (old new : LoadRows) : Type 0 where
  pub counted : (n : By → Slot → ℕ) → AreCounted I n old.loads → AreCounted I n new.loads
  pub known : KeepsKnown old.loads new.loads

-- another load at one slot
abbrev pub IsWritten : List (Slot × SlotLoad) → List (Slot × SlotLoad) → Slot → SlotLoad → Type 0
IsWritten old new s load = (q : Slot) → load_at new q ≡ cond (is_slot s q) (Some load) (load_at old q)

-- one more, but not more than can be kept
abbrev pub grown : ℕ → ℕ
grown n = if nat_lt n 4294967295 then n + 1 else n

-- one more or one less, where it counts
abbrev pub stepped : Bool → Bool → ℕ → ℕ
stepped more false n = n
stepped true true n = grown n
stepped false true n = n - 1

-- a load as a leg comes or goes
abbrev pub moved : Bool → SlotUse → SlotLoad → SlotLoad
moved more t load = record { by_flyer = stepped more t.by_flyer load.by_flyer; by_schedule = stepped more t.by_schedule load.by_schedule; cap = load.cap }

abbrev pub IsMoved : List (Slot × SlotLoad) → List (Slot × SlotLoad) → Slot → SlotUse → Bool → Type 0
IsMoved old new s t more = (load : SlotLoad) → load_at old s ≡ Some load → IsWritten old new s (moved more t load)

-- the slots of a row are taken by one leg more, and by one less
abbrev pub Enters : List (Slot × SlotLoad) → List (Slot × SlotLoad) → Option SlotUse → Type 0
Enters old new come =
    (I : Situation) (n : By → Slot → ℕ) → AreCounted I n old → AreKnown old come → ((by : By) (s : Slot) → n by s ≤ 4000000000)
    → AreCounted I (λ by s. n by s + among by come s) new

abbrev pub Leaves : List (Slot × SlotLoad) → List (Slot × SlotLoad) → Option SlotUse → Type 0
Leaves old new gone =
    (I : Situation) (n : By → Slot → ℕ) → AreCounted I n old → AreKnown old gone → ((by : By) (s : Slot) → among by gone s ≤ n by s)
    → AreCounted I (λ by s. n by s - among by gone s) new

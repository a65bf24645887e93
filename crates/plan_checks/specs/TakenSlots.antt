-- The slots that legs take, and which of them are overfull.
use Rattle.std.specs.Prelude.{◌≡◌, ℕ, ◌-◌, Bool, true, false, ◌&&◌, not, nat_le, if◌then◌else◌, List, filter, length, Option, Some, None, slice_index_or}
use Rattle.std.specs.List.{filter_map}
use Rattle.std.specs.Ordering.{is_lt}
use Rattle.desk_units.specs.declared.numbers.Airport.{Airport}
use Rattle.desk_data.specs.declared.broken.Broken.{Broken}
use Rattle.desk_data.specs.Situation.{Situation, leg_at}
use Rattle.desk_data.specs.PlanRows.{PlanRows, row_at}
use Rattle.desk_rules.specs.Numbers.{numbers}
use Rattle.desk_rules.specs.Rotations.{dep, arr}
use Rattle.desk_rules.specs.Slots.{is_in_the_air, hour_of, is_within}
use Rattle.hour_counts.specs.declared.slot.Slot.{Slot}
use Rattle.hour_counts.specs.declared.slot.Movement.{Movement}
use Rattle.hour_counts.specs.declared.slot.Movement.TheVariants.{Departure, Arrival}
use Rattle.hour_counts.specs.Slots.{IsSlot, is_slot, slot_cmp, cap, item}

-- where leg x departs or arrives, and when
abbrev pub airport_of : Situation → Movement → ℕ → Airport
airport_of I Departure x = (leg_at I x).origin
airport_of I Arrival x = (leg_at I x).dest

abbrev pub moment_of : Situation → PlanRows → Movement → ℕ → ℕ
moment_of I P Departure x = dep P x
moment_of I P Arrival x = arr I P x

-- the slot of an airport and an hour for a movement, and the item of its rule
abbrev pub slot_for : Movement → Airport → ℕ → Slot
slot_for movement airport hour = record { movement = movement; airport = airport; hour = hour }

abbrev pub item_of : Movement → Airport → ℕ → Broken
item_of movement airport hour = item (slot_for movement airport hour)

-- the slot that leg x takes, if it is in the air
abbrev pub slot_of : Situation → PlanRows → Movement → ℕ → Option Slot
slot_of I P movement x =
    if is_in_the_air I (row_at P x)
    then Some (slot_for movement (airport_of I movement x) (hour_of (moment_of I P movement x)))
    else None

-- the slots that the first n legs take, by leg
abbrev pub slots : Situation → PlanRows → Movement → ℕ → List Slot
slots I P movement n = filter_map (slot_of I P movement) (numbers n)

-- whether slot t is slot s
abbrev pub is_at : Slot → Slot → Bool
is_at s t = is_slot t s

-- whether a slot stands more often in a list than its cap
abbrev pub is_overfull : Situation → List Slot → Slot → Bool
is_overfull I taken slot = not (is_within (length (filter (is_at slot) taken)) (cap I slot))

-- a slot is overfull, and no lesser one
pub record IsLeastOver (I : Situation) (taken : List Slot) (slot : Slot) : Type 0 where
  pub range : IsSlot I slot
  pub over : is_overfull I taken slot ≡ true
  pub least : (lesser : Slot) → is_lt (slot_cmp lesser slot) ≡ true → is_overfull I taken lesser ≡ false

-- the least overfull slot, if there is one
abbrev pub IsLeastOverfull : Situation → List Slot → Option Slot → Type 0
IsLeastOverfull I taken None = (slot : Slot) → is_overfull I taken slot ≡ false
IsLeastOverfull I taken (Some slot) = IsLeastOver I taken slot

-- a slot of nothing
abbrev pub no_slot : Slot
no_slot = slot_for Departure (record { 0 = 0 }) 0

-- the slot at place k
abbrev pub slot_at : List Slot → ℕ → Slot
slot_at taken k = slice_index_or taken k no_slot

-- whether the slot at place k stands as many places to the left as its cap
abbrev pub stands_at : List Slot → ℕ → Option ℕ → Bool
stands_at taken k None = false
stands_at taken k (Some cap) = nat_le cap k && is_at (slot_at taken k) (slot_at taken (k - cap))

abbrev pub is_one_too_many : Situation → List Slot → ℕ → Bool
is_one_too_many I taken k = stands_at taken k (cap I (slot_at taken k))

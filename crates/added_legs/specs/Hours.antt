-- The slots that added legs take.
use Rattle.std.specs.Prelude.{◌≡◌, ℕ, ◌+◌, ◌&&◌, not, nat_lt, if◌then◌else◌, List, Option, Some, None, slice_index_or}
use Rattle.std.specs.List.{filter_map}
use Rattle.desk_units.specs.declared.numbers.Airport.{Airport}
use Rattle.desk_data.specs.Situation.{Situation, plane_at}
use Rattle.desk_rules.specs.Numbers.{numbers}
use Rattle.desk_rules.specs.Slots.{hour_of}
use Rattle.desk_rules.specs.Least.{all_hours}
use Rattle.hour_counts.specs.declared.slot.Slot.{Slot}
use Rattle.hour_counts.specs.declared.slot.Movement.{Movement}
use Rattle.hour_counts.specs.declared.slot.Movement.TheVariants.{Departure, Arrival}
use Rattle.hour_counts.specs.Slots.{IsSlot}
use Rattle.plan_checks.specs.TakenSlots.{slot_for}
use Rattle.added_legs.specs.declared.flight.Flight.{Flight}

-- where an added leg departs or arrives, and when
abbrev pub extra_airport : Movement → Flight → Airport
extra_airport Departure f = f.origin
extra_airport Arrival f = f.dest

abbrev pub extra_moment : Movement → Flight → ℕ
extra_moment Departure f = f.dep.0
extra_moment Arrival f = f.dep.0 + f.minutes

-- the slot that the added leg of aircraft p takes: surface transport takes none, and hours after the hundred years have no caps
abbrev pub extra_slot : Situation → Movement → ℕ → Option Flight → Option Slot
extra_slot I movement p None = None
extra_slot I movement p (Some f) =
    if not (plane_at I p).surface && nat_lt (hour_of (extra_moment movement f)) all_hours
    then Some (slot_for movement (extra_airport movement f) (hour_of (extra_moment movement f)))
    else None

-- those of the first n aircraft
abbrev pub extra_slots : Situation → Movement → List (Option Flight) → ℕ → List Slot
extra_slots I movement flights n = filter_map (λ p. extra_slot I movement p (slice_index_or flights p None)) (numbers n)

-- a slot of the day for a movement
pub record IsTaken (I : Situation) (movement : Movement) (s : Slot) : Type 0 where
  pub range : IsSlot I s
  pub kind : s.movement ≡ movement

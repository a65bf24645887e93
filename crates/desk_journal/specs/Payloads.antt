-- The entries of a desk's journal, as payloads of records.
use Rattle.std.specs.Prelude.{◌≡◌, ℕ, ◌+◌, ◌^◌, ◌<◌, nat_eq, Bool, if◌then◌else◌, List, [], ◌∷◌, Some, length, count_by, map, slice_get, slice_index}
use Rattle.day_orders.specs.declared.orders.Batch.{Batch}
use Rattle.desk_data.specs.Situation.{Situation}
use Rattle.plan_moves.specs.Fits.{Fits}
use Rattle.desk_model.specs.declared.answer.Entry.{Entry}
use Rattle.desk_model.specs.declared.answer.Event.{Event}
use Rattle.desk_model.specs.declared.answer.Event.TheVariants as event
use Rattle.desk_model.specs.Histories.{has_room, is_batch}
use Rattle.desk_journal.specs.declared.payload.StoredEvent.{StoredEvent}
use Rattle.desk_journal.specs.declared.payload.StoredEvent.TheVariants as stored
use Rattle.desk_journal.specs.Spelling.{IsNumber, payload}

-- how many batches there are among events, each with its caller
abbrev pub batches_among : List (ℕ × Event) → ℕ
batches_among events = count_by (λ asked. is_batch asked.1) events

-- an event as it is stored where so many batches come before it: a batch by this number, and a move by its steps
abbrev pub stored_by : ℕ → ℕ → Event → StoredEvent
stored_by number caller (event.Batch B) = stored.Batch caller number
stored_by number caller (event.Move m) = stored.Move caller m

abbrev pub payload_by : ℕ → ℕ → Event → List ℕ
payload_by number caller asked = payload (stored_by number caller asked)

-- the payloads of events, where so many batches come before them
abbrev pub payloads_from : ℕ → List (ℕ × Event) → List (List ℕ)
payloads_from number [] = []
payloads_from number (asked ∷ more) = payload_by number asked.0 asked.1 ∷ payloads_from (if is_batch asked.1 then number + 1 else number) more

abbrev pub payloads_of : List (ℕ × Event) → List (List ℕ)
payloads_of events = payloads_from 0 events

-- the events of a history, each with its caller, and their payloads
abbrev pub asked_in : List Entry → List (ℕ × Event)
asked_in h = map (λ entry. (entry.caller, entry.event)) h

abbrev pub history_payloads : List Entry → List (List ℕ)
history_payloads h = payloads_of (asked_in h)

-- ---- what reading adds

-- the events, each with its caller, that get an entry of a journal which has so many: one that finds no room gets none, as in a run
unfoldable pub with_room_from : ℕ → List (ℕ × Event) → List (ℕ × Event)
with_room_from n [] = []
with_room_from n (asked ∷ more) = if has_room n asked.1 then asked ∷ with_room_from (n + 1) more else with_room_from n more

-- those of the entries of a journal that these events are read into, from the first on
abbrev pub with_room : List (ℕ × Event) → List (ℕ × Event)
with_room events = with_room_from 0 events

-- ---- what may stand in a file

-- a payload spells a batch where a 0 stands behind the four bytes of the caller, and how many of these do
abbrev pub spells_batch : List ℕ → Bool
spells_batch p = nat_eq (slice_index p 4) 0

abbrev pub batches_in : List (List ℕ) → ℕ
batches_in ps = count_by spells_batch ps

-- an event that may come next after so many batches: the next batch of the day, by a number of four bytes, or a move that fits
abbrev pub MayBeNext : Situation → List Batch → ℕ → Event → Type 0
MayBeNext I batches number (event.Batch B) = IsNumber number × (slice_get batches number ≡ Some B)
MayBeNext I batches number (event.Move m) = Fits I m

-- a payload that may come next after so many batches: it spells who asked and an event that may come next. Whether a journal has
-- room for that makes no difference
pub record MayCome (I : Situation) (batches : List Batch) (due : ℕ) (p : List ℕ) : Type 0 where
  pub asked : ℕ × Event
  pub caller : asked.0 < 2 ^ 32
  pub next : MayBeNext I batches due asked.1
  pub is : p ≡ payload_by due asked.0 asked.1

-- a payload that may stand behind those, on a day with these batches
abbrev pub MayStand : Situation → List Batch → List (List ℕ) → List ℕ → Type 0
MayStand I batches before p = MayCome I batches (batches_in before) p

-- events, each with its caller, that may come one behind another after so many batches
abbrev pub AreNext : Situation → List Batch → ℕ → List (ℕ × Event) → Type 0
AreNext I batches due [] = Unit {0}
AreNext I batches due (asked ∷ more) = (asked.0 < 2 ^ 32) × (MayBeNext I batches due asked.1 × AreNext I batches (if is_batch asked.1 then due + 1 else due) more)

-- ---- the same of what a payload spells

-- the next batch by its number, or a move that fits
abbrev pub ComesNext : Situation → List Batch → ℕ → StoredEvent → Type 0
ComesNext I batches due (stored.Batch caller number) = (number ≡ due) × (due < length batches)
ComesNext I batches due (stored.Move caller m) = Fits I m

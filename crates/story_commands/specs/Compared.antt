-- The entries that a disk holds, compared with the history of events.
use Rattle.std.specs.Prelude.{◌≡◌, ◌≢◌, ◌⊎◌, ℕ, zero, suc, ◌+◌, ◌<◌, ◌≤◌, true, false, cond, List, [], ◌++◌, length, take, get_or, Option, Some, None, slice_get}
use Rattle.desk_model.specs.declared.answer.Entry.{Entry}
use Rattle.desk_model.specs.declared.answer.Event.{Event}
use Rattle.desk_model.specs.States.{State}
use Rattle.desk_model.specs.Histories.{has_room, is_batch, run}
use Rattle.desk_journal.specs.Payloads.{asked_in, batches_among, history_payloads, payload_by}
use Rattle.story_commands.specs.declared.compare.Compared.{Compared}
use Rattle.story_commands.specs.declared.compare.Reached.{Reached}
use Rattle.story_commands.specs.declared.compare.Compared.TheVariants as compared

-- the payload of an event after a history
abbrev pub next_payload : List Entry → ℕ × Event → List ℕ
next_payload h asked = payload_by (batches_among (asked_in h)) asked.0 asked.1

-- the event at this place, from 0 on, is the first whose entry is not the one that is held: those of the events before it are
pub record IsOther (S : State) (events : List (ℕ × Event)) (held : List (List ℕ)) (i : ℕ) : Type 0 where
  pub asked : ℕ × Event
  pub at : slice_get events i ≡ Some asked
  pub front : history_payloads (run S (take i events)) ≡ take (length (run S (take i events))) held
  pub more : length (run S (take i events)) < length held
  pub room : has_room (length (run S (take i events))) asked.1 ≡ true
  pub other : slice_get held (length (run S (take i events))) ≢ Some (next_payload (run S (take i events)) asked)

-- more is held than the history has
pub record IsShort (S : State) (events : List (ℕ × Event)) (held : List (List ℕ)) : Type 0 where
  pub rest : List (List ℕ)
  pub is : held ≡ history_payloads (run S events) ++ rest
  pub some : 0 < length rest

-- the line of the journal at which the two differ first: that of the event, counted from 1, and 0 where the history is shorter
abbrev pub DiffersAt : State → List (ℕ × Event) → List (List ℕ) → ℕ → Type 0
DiffersAt S events held zero = IsShort S events held
DiffersAt S events held (suc i) = IsOther S events held i

-- what is held is what the first so many events come to, so many of which are batches
pub record IsFront (S : State) (events : List (ℕ × Event)) (held : List (List ℕ)) (taken number : ℕ) : Type 0 where
  pub within : taken ≤ length events
  pub is : history_payloads (run S (take taken events)) ≡ held
  pub count : number ≡ batches_among (asked_in (run S (take taken events)))

-- one event more: where there is room its entry is the one that is held next, and so many are the same; or it is another
abbrev pub Steps : List (List ℕ) → Reached → ℕ × Event → Option Reached → Type 0
Steps held at asked None = (has_room at.entries asked.1 ≡ true) × (get_or held at.entries [] ≢ payload_by at.number asked.0 asked.1)
Steps held at asked (Some next) =
    ((has_room at.entries asked.1 ≡ false) × (next ≡ at))
    ⊎ ((has_room at.entries asked.1 ≡ true) × (get_or held at.entries [] ≡ payload_by at.number asked.0 asked.1) × (next.entries ≡ at.entries + 1) × (next.number ≡ at.number + cond (is_batch asked.1) 1 0))

-- what a comparison says
abbrev pub Compares : State → List (ℕ × Event) → List (List ℕ) → Compared → Type 0
Compares S events held (compared.First taken number) = IsFront S events held taken number
Compares S events held (compared.Other line) = DiffersAt S events held line

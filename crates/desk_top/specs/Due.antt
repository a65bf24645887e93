-- Rows of a journal that was accepted, and events that come as they are due.
use Rattle.std.specs.Prelude.{◌≡◌, ℕ, ◌+◌, ◌≤◌, if◌then◌else◌, List, [], ◌∷◌, length, Some, slice_get}
use Rattle.std.specs.List.{AllByRecursion}
use Rattle.day_orders.specs.declared.orders.Batch.{Batch}
use Rattle.desk_data.specs.Situation.{Situation}
use Rattle.plan_moves.specs.Fits.{Fits}
use Rattle.desk_model.specs.declared.answer.Event.{Event}
use Rattle.desk_model.specs.declared.answer.Event.TheVariants as event
use Rattle.desk_model.specs.Histories.{is_batch}
use Rattle.desk_journal.specs.declared.rows.JournalRow.{JournalRow}
use Rattle.desk_journal.specs.declared.rows.NamedEvent.{NamedEvent}
use Rattle.desk_journal.specs.declared.rows.NamedEvent.TheVariants as named_event
use Rattle.desk_journal.specs.declared.rows.NamedStep.{NamedStep}
use Rattle.desk_journal.specs.declared.rows.NamedStep.TheVariants.{Rebook}

-- a step's paths have at most 8 legs, and its count is 1 to 1,000
abbrev pub IsShort : NamedStep → Type 0
IsShort (Rebook res path to count) = (length path.legs ≤ 8) × (length to.legs ≤ 8) × (1 ≤ count) × (count ≤ 1000)
IsShort other = Unit {0}

-- a batch's number is at most 1,000, and each step of a move is short
abbrev pub IsFew : NamedEvent → Type 0
IsFew (named_event.Batch number) = number ≤ 1000
IsFew (named_event.Move steps) = AllByRecursion IsShort steps

-- a row as the grammar of the journal gives it, as far as its numbers go
abbrev pub IsNumbered : JournalRow → Type 0
IsNumbered row = (row.caller ≤ 64) × IsFew row.event

-- an event that is due after so many batches: the next batch of the day, of the first 1,001, or a move that fits
abbrev pub IsDue : Situation → List Batch → ℕ → Event → Type 0
IsDue I batches due (event.Batch B) = (due ≤ 1000) × (slice_get batches due ≡ Some B)
IsDue I batches due (event.Move m) = Fits I m

-- events, each with its caller, that are due one behind another after so many batches
abbrev pub AreDue : Situation → List Batch → ℕ → List (ℕ × Event) → Type 0
AreDue I batches due [] = Unit {0}
AreDue I batches due (asked ∷ more) = (asked.0 ≤ 64) × (IsDue I batches due asked.1 × AreDue I batches (if is_batch asked.1 then due + 1 else due) more)

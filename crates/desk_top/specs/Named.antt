-- The rows that the entries of a journal are read as: everything has its name.
use Rattle.std.specs.Prelude.{◌≡◌, ℕ, ◌+◌, ◌≤◌, List, [], ◌∷◌, map, take, Option, Some, None, length, All, decimal, slice_get}
use Rattle.std.specs.List.{enumerate_from}
use Rattle.desk_units.specs.declared.numbers.Leg.{Leg}
use Rattle.desk_units.specs.declared.numbers.Cabin.{Cabin}
use Rattle.day_orders.specs.declared.orders.Batch.{Batch}
use Rattle.desk_data.specs.declared.row.Row.{Row}
use Rattle.desk_data.specs.declared.row.Row.TheVariants as row
use Rattle.desk_data.specs.Situation.{Situation, leg_at, plane_at, res_at}
use Rattle.plan_moves.specs.declared.moves.Step.{Step}
use Rattle.plan_moves.specs.declared.moves.Step.TheVariants as step
use Rattle.desk_model.specs.declared.answer.Event.{Event}
use Rattle.desk_model.specs.declared.answer.Event.TheVariants as event
use Rattle.desk_model.specs.declared.answer.Entry.{Entry}
use Rattle.desk_data.specs.Valid.{IsValid}
use Rattle.desk_model.specs.States.{opening}
use Rattle.desk_model.specs.Histories.{IsLegal}
use Rattle.file_rows.specs.Limits.{most_journal_bytes}
use Rattle.output_texts.specs.Lines.{answer_text, batches, detail_text, journal_text, kind_text}
use Rattle.desk_top.specs.Lengths.{HasNames}
use Rattle.desk_journal.specs.declared.rows.NamedLeg.{NamedLeg}
use Rattle.desk_journal.specs.declared.rows.NamedRes.{NamedRes}
use Rattle.desk_journal.specs.declared.rows.NamedPath.{NamedPath}
use Rattle.desk_journal.specs.declared.rows.NamedRow.{NamedRow}
use Rattle.desk_journal.specs.declared.rows.NamedRow.TheVariants as rows
use Rattle.desk_journal.specs.declared.rows.NamedStep.{NamedStep}
use Rattle.desk_journal.specs.declared.rows.NamedStep.TheVariants as named
use Rattle.desk_journal.specs.declared.rows.NamedEvent.{NamedEvent}
use Rattle.desk_journal.specs.declared.rows.NamedEvent.TheVariants as events
use Rattle.desk_journal.specs.declared.rows.JournalRow.{JournalRow}

-- ---- what a step names

abbrev pub named_leg : Situation → ℕ → NamedLeg
named_leg I x = record { flight = (leg_at I x).flight; day = (leg_at I x).day }

abbrev pub named_row : Situation → Row → NamedRow
named_row I (row.Flown plane dep) = rows.Flown (plane_at I plane.0).name dep
named_row I row.Cancelled = rows.Cancelled

abbrev pub named_after : Situation → Option Leg → Option NamedLeg
named_after I None = None
named_after I (Some leg) = Some (named_leg I leg.0)

abbrev pub named_seat : Situation → Leg × Cabin → NamedLeg × Cabin
named_seat I pair = (named_leg I pair.0.0, pair.1)

abbrev pub named_path : Situation → List (Leg × Cabin) → NamedPath
named_path I path = record { legs = map (named_seat I) path }

abbrev pub named_res : Situation → ℕ → NamedRes
named_res I r = record { name = (res_at I r).name; inbound = (res_at I r).inbound }

abbrev pub named_step : Situation → Step → NamedStep
named_step I (step.Set leg was new) = named.Set (named_leg I leg.0) (named_row I was) (named_row I new)
named_step I (step.Push plane after) = named.Push (plane_at I plane.0).name (named_after I after)
named_step I (step.Swap first second at) = named.Swap (plane_at I first.0).name (plane_at I second.0).name at
named_step I (step.Rebook res path to count) = named.Rebook (named_res I res.0) (named_path I path) (named_path I to) count
named_step I step.Tidy = named.Tidy
named_step I (step.Refill leg) = named.Refill (named_leg I leg.0)

-- an event, a batch having this number
abbrev pub named_event : Situation → ℕ → Event → NamedEvent
named_event I number (event.Batch batch) = events.Batch number
named_event I number (event.Move m) = events.Move (map (named_step I) m.steps)

-- ---- the rows of a journal

-- the row of an entry that stands at this place of the history
abbrev pub row_at : Situation → List Entry → ℕ × Entry → JournalRow
row_at I h placed = record { line = placed.0 + 1; caller = placed.1.caller; event = named_event I (batches (take placed.0 h)) placed.1.event }

-- a row for each entry
unfoldable pub rows_of_history : Situation → List Entry → List JournalRow
rows_of_history I h = map (row_at I h) (enumerate_from 0 h)

-- who asked, and what
abbrev pub asked : Entry → ℕ × Event
asked entry = (entry.caller, entry.event)

-- ---- the records of a journal

-- CALLER, EVENT, DETAIL, REPLY: the fields of the line of an entry, a batch having this number
abbrev pub fields_at : Situation → ℕ → Entry → List (List ℕ)
fields_at I number entry = decimal entry.caller ∷ kind_text entry.event ∷ detail_text I number entry.event ∷ answer_text I entry.answer ∷ []

-- ---- what is asked of a history

-- the history's batches are the first ones of these, in their order
abbrev pub TakesInOrder : List Batch → List Entry → Type 0
TakesInOrder feed h = (i : ℕ) (entry : Entry) (batch : Batch) → slice_get h i ≡ Some entry → entry.event ≡ event.Batch batch → slice_get feed (batches (take i h)) ≡ Some batch

-- a history that was legal from the opening of a day, with callers that there may be, batches taken in their order, and a text that is not too long
pub record CanBeReadBack (I : Situation) (feed : List Batch) (h : List Entry) : Type 0 where
  pub valid : IsValid I
  pub names : HasNames I
  pub few : length feed ≤ 1001
  pub legal : IsLegal (opening I) h
  pub callers : All (λ entry. entry.caller ≤ 64) h
  pub order : TakesInOrder feed h
  pub small : length (journal_text I h) ≤ most_journal_bytes

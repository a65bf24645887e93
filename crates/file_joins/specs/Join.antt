-- How the rows of a journal become events: names become numbers, and a batch's number that batch.
use Rattle.std.specs.Prelude.{ℕ, Bool, true, false, ◌&&◌, ◌==◌, nat_le, nat_lt, if◌then◌else◌, List, [], ◌∷◌, ◌++◌, length, count_by, slice_get, Option, Some, None, ok_or, Result, Ok, Err}
use Rattle.std.specs.List.{list_all}
use Rattle.desk_units.specs.declared.numbers.Leg.{Leg}
use Rattle.desk_units.specs.declared.numbers.Plane.{Plane}
use Rattle.desk_units.specs.declared.numbers.Res.{Res}
use Rattle.desk_units.specs.declared.numbers.Minute.{Minute}
use Rattle.desk_units.specs.declared.numbers.Cabin.{Cabin}
use Rattle.file_rows.specs.declared.cause.Cause.{Cause}
use Rattle.file_rows.specs.declared.cause.Cause.TheVariants as cause
use Rattle.file_rows.specs.Limits.{end_of_time}
use Rattle.desk_text.specs.Rows.{◌>>=◌, at_line}
use Rattle.day_orders.specs.declared.orders.Batch.{Batch}
use Rattle.desk_data.specs.declared.row.Row.{Row}
use Rattle.desk_data.specs.declared.row.Row.TheVariants as row
use Rattle.plan_moves.specs.declared.moves.Step.{Step}
use Rattle.plan_moves.specs.declared.moves.Step.TheVariants.{Set, Push, Swap, Rebook, Tidy, Refill}
use Rattle.desk_data.specs.Situation.{Situation}
use Rattle.desk_model.specs.declared.answer.Event.{Event}
use Rattle.desk_model.specs.declared.answer.Event.TheVariants as event
use Rattle.desk_build.specs.declared.joining.Built.{Built}
use Rattle.file_joins.specs.Names.{leg_named, plane_named, res_named}
use Rattle.desk_journal.specs.declared.rows.NamedLeg.{NamedLeg}
use Rattle.desk_journal.specs.declared.rows.NamedRes.{NamedRes}
use Rattle.desk_journal.specs.declared.rows.NamedPath.{NamedPath}
use Rattle.desk_journal.specs.declared.rows.NamedRow.{NamedRow}
use Rattle.desk_journal.specs.declared.rows.NamedRow.TheVariants as named_row
use Rattle.desk_journal.specs.declared.rows.NamedStep.{NamedStep}
use Rattle.desk_journal.specs.declared.rows.NamedStep.TheVariants as named
use Rattle.desk_journal.specs.declared.rows.NamedEvent.{NamedEvent}
use Rattle.desk_journal.specs.declared.rows.NamedEvent.TheVariants as named_event
use Rattle.desk_journal.specs.declared.rows.JournalRow.{JournalRow}

-- what each gives, in order, or the first refusal
unfoldable pub all_of : {A B E : Type 0} → (A → Result B E) → List A → Result (List B) E
all_of f [] = Ok []
all_of f (x ∷ xs) = do
  y ← f x
  ys ← all_of f xs
  Ok (y ∷ ys)

-- what each gives after those that stand before it, in order, or the first refusal
unfoldable pub all_after : {A B E : Type 0} → (List A → A → Result B E) → List A → List A → Result (List B) E
all_after f before [] = Ok []
all_after f before (x ∷ xs) = do
  y ← f before x
  ys ← all_after f (before ++ x ∷ []) xs
  Ok (y ∷ ys)

-- ---- names: one that nothing has is unknown

abbrev pub leg_of : Situation → NamedLeg → Result Leg Cause
leg_of I leg = ok_or (leg_named I leg.flight leg.day) cause.Unknown

abbrev pub plane_of : Situation → List ℕ → Result Plane Cause
plane_of I name = ok_or (plane_named I name) cause.Unknown

abbrev pub res_of : Situation → NamedRes → Result Res Cause
res_of I res = ok_or (res_named I res.name res.inbound) cause.Unknown

-- a leg that may be left out
unfoldable pub after_of : Situation → Option NamedLeg → Result (Option Leg) Cause
after_of I None = Ok None
after_of I (Some named) = do
  leg ← leg_of I named
  Ok (Some leg)

-- a leg with a cabin
unfoldable pub seat_of : Situation → NamedLeg × Cabin → Result (Leg × Cabin) Cause
seat_of I seat = do
  leg ← leg_of I seat.0
  Ok (leg, seat.1)

abbrev pub path_of : Situation → NamedPath → Result (List (Leg × Cabin)) Cause
path_of I path = all_of (seat_of I) path.legs

-- the row of a leg
unfoldable pub row_of : Situation → NamedRow → Result Row Cause
row_of I (named_row.Flown name dep) = do
  plane ← plane_of I name
  Ok (row.Flown plane dep)
row_of I named_row.Cancelled = Ok row.Cancelled

-- ---- steps

unfoldable pub set_of : Situation → NamedLeg → NamedRow → NamedRow → Result Step Cause
set_of I leg was new = do
  x ← leg_of I leg
  old ← row_of I was
  next ← row_of I new
  Ok (Set x old next)

unfoldable pub push_of : Situation → List ℕ → Option NamedLeg → Result Step Cause
push_of I plane after = do
  p ← plane_of I plane
  after_leg ← after_of I after
  Ok (Push p after_leg)

unfoldable pub swap_of : Situation → List ℕ → List ℕ → Minute → Result Step Cause
swap_of I first second at = do
  p ← plane_of I first
  q ← plane_of I second
  Ok (Swap p q at)

unfoldable pub rebook_of : Situation → NamedRes → NamedPath → NamedPath → ℕ → Result Step Cause
rebook_of I res path to count = do
  r ← res_of I res
  from ← path_of I path
  onto ← path_of I to
  Ok (Rebook r from onto count)

unfoldable pub refill_of : Situation → NamedLeg → Result Step Cause
refill_of I leg = do
  x ← leg_of I leg
  Ok (Refill x)

abbrev pub step_of : Situation → NamedStep → Result Step Cause
step_of I (named.Set leg was new) = set_of I leg was new
step_of I (named.Push plane after) = push_of I plane after
step_of I (named.Swap first second at) = swap_of I first second at
step_of I (named.Rebook res path to count) = rebook_of I res path to count
step_of I named.Tidy = Ok Tidy
step_of I (named.Refill leg) = refill_of I leg

-- ---- moves

-- whether a moment is before minute 52,500,000
abbrev pub is_in_time : Minute → Bool
is_in_time at = nat_lt at.0 end_of_time

abbrev pub row_is_in_time : Row → Bool
row_is_in_time (row.Flown plane dep) = is_in_time dep
row_is_in_time row.Cancelled = true

-- whether the departures that a step names are, and the moment from which it swaps
abbrev pub step_is_in_time : Step → Bool
step_is_in_time (Set leg was new) = row_is_in_time was && row_is_in_time new
step_is_in_time (Swap first second at) = is_in_time at
step_is_in_time other = true

-- 1 to 16 steps, each of them in time
abbrev pub is_move : List Step → Bool
is_move steps = (nat_le 1 (length steps) && nat_le (length steps) 16) && list_all step_is_in_time steps

unfoldable pub move_of : List Step → Result Event Cause
move_of steps = if is_move steps then Ok (event.Move (record { steps = steps })) else Err cause.Move

-- a move: all that its steps name is there, and then they are a move
unfoldable pub joined_move : Situation → List NamedStep → Result Event Cause
joined_move I named = do
  steps ← all_of (step_of I) named
  move_of steps

-- ---- batches

-- whether an event is a batch
abbrev pub is_batch : NamedEvent → Bool
is_batch (named_event.Batch number) = true
is_batch (named_event.Move steps) = false

-- how many of the rows are batches. So the batch after them is due to have this number: 0 where there is none before it, and else one more than the last
abbrev pub batches_in : List JournalRow → ℕ
batches_in rows = count_by (λ row. is_batch row.event) rows

-- the batch of this number, where it is the one that is due and it is there
unfoldable pub batch_of : List Batch → ℕ → ℕ → Result Batch Cause
batch_of batches due number = if number == due then ok_or (slice_get batches number) cause.Batch else Err cause.Batch

-- the event of that batch
unfoldable pub stated_batch : List Batch → ℕ → ℕ → Result Event Cause
stated_batch batches due number = do
  batch ← batch_of batches due number
  Ok (event.Batch batch)

-- ---- rows

-- the event of a row, where batch `due` is the next one
abbrev pub event_of : Situation → List Batch → ℕ → NamedEvent → Result Event Cause
event_of I batches due (named_event.Batch number) = stated_batch batches due number
event_of I batches due (named_event.Move steps) = joined_move I steps

-- a row's caller and its event after the rows before it, or the row's line and why it is refused
unfoldable pub asked_of : Situation → List Batch → List JournalRow → JournalRow → Result (ℕ × Event) (ℕ × Cause)
asked_of I batches before row = do
  event ← at_line row.line (event_of I batches (batches_in before) row.event)
  Ok (row.caller, event)

-- the events of the rows, each with its caller, or the line of the first row that is refused, with the cause
unfoldable pub events_of : Built → List JournalRow → Result (List (ℕ × Event)) (ℕ × Cause)
events_of built rows = all_after (asked_of built.inst built.batches) [] rows

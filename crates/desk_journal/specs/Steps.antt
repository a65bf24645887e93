-- The steps of a move, as their tokens spell them.
use Rattle.std.specs.Prelude.{◌≡◌, ℕ, zero, suc, ◌+◌, ◌*◌, Bool, true, false, List, [], ◌∷◌, length, Option, Some, None, Result, Ok, Err}
use Rattle.desk_units.specs.declared.numbers.Cabin.{Cabin}
use Rattle.desk_units.specs.declared.numbers.Minute.{Minute}
use Rattle.file_rows.specs.declared.cause.Cause.{Cause}
use Rattle.file_rows.specs.declared.cause.Cause.TheVariants as causes
use Rattle.desk_text.specs.declared.fault.RowFault.{RowFault}
use Rattle.desk_text.specs.declared.fault.RowFault.TheVariants as row_fault
use Rattle.desk_text.specs.Fields.{number_of, cabin_of, inbound_of}
use Rattle.desk_text.specs.Rows.{◌>>=◌}
use Rattle.desk_journal.specs.declared.kind.StepKind.{StepKind}
use Rattle.desk_journal.specs.declared.kind.StepKind.TheVariants as kinds
use Rattle.desk_journal.specs.declared.rows.NamedLeg.{NamedLeg}
use Rattle.desk_journal.specs.declared.rows.NamedPath.{NamedPath}
use Rattle.desk_journal.specs.declared.rows.NamedRow.{NamedRow}
use Rattle.desk_journal.specs.declared.rows.NamedRow.TheVariants.{Flown, Cancelled}
use Rattle.desk_journal.specs.declared.rows.NamedStep.{NamedStep}
use Rattle.desk_journal.specs.declared.rows.NamedStep.TheVariants.{Set, Push, Swap, Rebook, Tidy, Refill}
use Rattle.desk_journal.specs.Tokens.{TokenReaders, Reading, token, kind_of, flown_of, later_of}

-- ---- parts of steps

-- FLIGHT DATE
unfoldable pub leg_at : TokenReaders → List (List ℕ) → Reading NamedLeg
leg_at T tokens = do
  flight ← token T.name_of tokens
  day ← token T.date_of flight.1
  Ok (record { flight = flight.0; day = day.0 }, day.1)

-- DATE TIME
unfoldable pub moment_at : TokenReaders → List (List ℕ) → Reading Minute
moment_at T tokens = do
  day ← token T.date_of tokens
  time ← token T.time_of day.1
  Ok (record { 0 = 1440 * day.0 + time.0 }, time.1)

-- AIRCRAFT DATE TIME of a row that is flown, and nothing of one that is not
unfoldable pub row_from : TokenReaders → Bool → List (List ℕ) → Reading NamedRow
row_from T true tokens = do
  plane ← token T.name_of tokens
  dep ← moment_at T plane.1
  Ok (Flown plane.0 dep.0, dep.1)
row_from T false tokens = Ok (Cancelled, tokens)

-- '-', or '+' AIRCRAFT DATE TIME
unfoldable pub row_at : TokenReaders → List (List ℕ) → Reading NamedRow
row_at T tokens = do
  flown ← token flown_of tokens
  row_from T flown.0 flown.1

-- FLIGHT DATE of the leg that a push begins after, where there is one
unfoldable pub after_from : TokenReaders → Bool → List (List ℕ) → Reading (Option NamedLeg)
after_from T true tokens = do
  leg ← leg_at T tokens
  Ok (Some leg.0, leg.1)
after_from T false tokens = Ok (None, tokens)

-- FLIGHT DATE CABIN
unfoldable pub seat_at : TokenReaders → List (List ℕ) → Reading (NamedLeg × Cabin)
seat_at T tokens = do
  leg ← leg_at T tokens
  cabin ← token cabin_of leg.1
  Ok ((leg.0, cabin.0), cabin.1)

-- so many legs of a path
unfoldable pub seats_at : TokenReaders → ℕ → List (List ℕ) → Reading (List (NamedLeg × Cabin))
seats_at T zero tokens = Ok ([], tokens)
seats_at T (suc count) tokens = do
  seat ← seat_at T tokens
  others ← seats_at T count seat.1
  Ok (seat.0 ∷ others.0, others.1)

-- the number of legs, 0 to 8, and each of them
unfoldable pub path_at : TokenReaders → List (List ℕ) → Reading NamedPath
path_at T tokens = do
  count ← token (number_of 0 8) tokens
  seats ← seats_at T count.0 count.1
  Ok (record { legs = seats.0 }, seats.1)

-- ---- steps

-- what follows the first token of a step of this kind
unfoldable pub step_from : TokenReaders → StepKind → List (List ℕ) → Reading NamedStep
-- FLIGHT DATE WAS NEW
step_from T kinds.Set tokens = do
  leg ← leg_at T tokens
  was ← row_at T leg.1
  new ← row_at T was.1
  Ok (Set leg.0 was.0 new.0, new.1)
-- AIRCRAFT all, or AIRCRAFT after FLIGHT DATE
step_from T kinds.Push tokens = do
  plane ← token T.name_of tokens
  is_later ← token later_of plane.1
  after ← after_from T is_later.0 is_later.1
  Ok (Push plane.0 after.0, after.1)
-- AIRCRAFT AIRCRAFT DATE TIME
step_from T kinds.Swap tokens = do
  first ← token T.name_of tokens
  second ← token T.name_of first.1
  at ← moment_at T second.1
  Ok (Swap first.0 second.0 at.0, at.1)
-- RESERVATION TYPE COUNT PATH PATH
step_from T kinds.Rebook tokens = do
  name ← token T.name_of tokens
  inbound ← token inbound_of name.1
  count ← token (number_of 1 1000) inbound.1
  path ← path_at T count.1
  to ← path_at T path.1
  Ok (Rebook (record { name = name.0; inbound = inbound.0 }) path.0 to.0 count.0, to.1)
step_from T kinds.Tidy tokens = Ok (Tidy, tokens)
-- FLIGHT DATE
step_from T kinds.Refill tokens = do
  leg ← leg_at T tokens
  Ok (Refill leg.0, leg.1)

-- a step whose first token is this one
unfoldable pub step_at : TokenReaders → List ℕ → List (List ℕ) → Reading NamedStep
step_at T word tokens = do
  kind ← kind_of word
  step_from T kind tokens

-- this one before the others, where these are read
abbrev pub before_all : NamedStep → Result (List NamedStep) Cause → Result (List NamedStep) Cause
before_all step others = others >>= λ steps. Ok (step ∷ steps)

-- the steps of the tokens, where they are at most so many; that there are more is refused, and `steps_of` never meets it
unfoldable pub steps_within : TokenReaders → ℕ → List (List ℕ) → Result (List NamedStep) Cause
steps_within T most [] = Ok []
steps_within T zero (word ∷ tokens) = Err causes.Fields
steps_within T (suc most) (word ∷ tokens) = do
  step ← step_at T word tokens
  before_all step.0 (steps_within T most step.1)

-- the steps of the tokens, one after another; a step has a token at least, so they are at most as many as the tokens
unfoldable pub steps_of : TokenReaders → List (List ℕ) → Result (List NamedStep) Cause
steps_of T tokens = steps_within T (length tokens) tokens

-- a step and, after it, the steps of the tokens that it leaves
abbrev pub steps_from : TokenReaders → Reading NamedStep → Result (List NamedStep) Cause
steps_from T step = do
  first ← step
  before_all first.0 (steps_of T first.1)

-- a reader gives these steps, or refuses them with that cause; out of memory may come at any time
abbrev pub StepsAre : {Answer : Type 0} → (Answer → List NamedStep) → Result Answer RowFault → Result (List NamedStep) Cause → Type 0
StepsAre steps (Ok answer) read = read ≡ Ok (steps answer)
StepsAre steps (Err (row_fault.Refused cause)) read = read ≡ Err cause
StepsAre steps (Err row_fault.Memory) read = Unit {0}

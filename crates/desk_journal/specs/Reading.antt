-- Reading a spelling from left to right. A reader gives a value and the bytes behind it, or nothing.
use Rattle.std.specs.Prelude.{ℕ, zero, suc, nat_lt, if◌then◌else◌, ◌≡◌, List, [], ◌∷◌, ◌++◌, length, take, drop, Option, Some, None}
use Rattle.std.specs.Int.{w32, from_be_bytes}
use Rattle.desk_text.specs.Fields.{◌>>=◌}
use Rattle.desk_units.specs.declared.numbers.Leg.{Leg}
use Rattle.desk_units.specs.declared.numbers.Cabin.{Cabin}
use Rattle.desk_units.specs.declared.numbers.Cabin.TheVariants as cabin
use Rattle.desk_data.specs.declared.row.Row.{Row}
use Rattle.desk_data.specs.declared.row.Row.TheVariants as row
use Rattle.plan_moves.specs.declared.moves.Step.{Step}
use Rattle.plan_moves.specs.declared.moves.Step.TheVariants as step
use Rattle.desk_journal.specs.declared.payload.StoredEvent.{StoredEvent}
use Rattle.desk_journal.specs.declared.payload.StoredEvent.TheVariants as event

abbrev pub Reads : Type 0 → Type 0
Reads X = List ℕ → Option (X × List ℕ)

-- ---- how readers are put together

-- one behind another
abbrev pub both : {X Y : Type 0} → Reads X → Reads Y → Reads (X × Y)
both first second bytes = first bytes >>= λ x. second x.1 >>= λ y. Some ((x.0, y.0), y.1)

-- the value in another form
abbrev pub made : {X Y : Type 0} → (X → Y) → Reads X → Reads Y
made f reader bytes = reader bytes >>= λ x. Some (f x.0, x.1)

-- so many, one behind another
unfoldable pub many : {X : Type 0} → Reads X → ℕ → Reads (List X)
many reader zero bytes = Some ([], bytes)
many reader (suc n) bytes = reader bytes >>= λ x. many reader n x.1 >>= λ xs. Some (x.0 ∷ xs.0, xs.1)

-- ---- the readers

abbrev pub byte_at : Reads ℕ
byte_at [] = None
byte_at (b ∷ rest) = Some (b, rest)

abbrev pub number_at : Reads ℕ
number_at bytes = if nat_lt (length bytes) 4 then None else Some (from_be_bytes w32 (take 4 bytes), drop 4 bytes)

abbrev pub leg_at : Reads Leg
leg_at bytes = made (λ n. record { 0 = n }) number_at bytes

-- the kinds of a row, of a leg or none, and of a cabin
abbrev pub row_of : ℕ → Reads Row
row_of zero rest = Some (row.Cancelled, rest)
row_of (suc zero) rest = made (λ p. row.Flown (record { 0 = p.0 }) (record { 0 = p.1 })) (both number_at number_at) rest
row_of (suc (suc b)) rest = None

unfoldable pub row_at : Reads Row
row_at bytes = byte_at bytes >>= λ b. row_of b.0 b.1

abbrev pub after_of : ℕ → Reads (Option Leg)
after_of zero rest = Some (None, rest)
after_of (suc zero) rest = made Some leg_at rest
after_of (suc (suc b)) rest = None

unfoldable pub after_at : Reads (Option Leg)
after_at bytes = byte_at bytes >>= λ b. after_of b.0 b.1

abbrev pub cabin_of : ℕ → Option Cabin
cabin_of zero = Some cabin.F
cabin_of (suc zero) = Some cabin.B
cabin_of (suc (suc zero)) = Some cabin.E
cabin_of (suc (suc (suc b))) = None

unfoldable pub cabin_at : Reads Cabin
cabin_at bytes = byte_at bytes >>= λ b. cabin_of b.0 >>= λ c. Some (c, b.1)

abbrev pub pair_at : Reads (Leg × Cabin)
pair_at bytes = both leg_at cabin_at bytes

unfoldable pub path_at : Reads (List (Leg × Cabin))
path_at bytes = byte_at bytes >>= λ b. many pair_at b.0 b.1

-- a step by its kind
abbrev pub step_of : ℕ → Reads Step
step_of zero rest = made (λ p. step.Set p.0 p.1.0 p.1.1) (both leg_at (both row_at row_at)) rest
step_of (suc zero) rest = made (λ p. step.Push (record { 0 = p.0 }) p.1) (both number_at after_at) rest
step_of (suc (suc zero)) rest = made (λ p. step.Swap (record { 0 = p.0 }) (record { 0 = p.1.0 }) (record { 0 = p.1.1 })) (both number_at (both number_at number_at)) rest
step_of (suc (suc (suc zero))) rest = made (λ p. step.Rebook (record { 0 = p.0 }) p.1.1.0 p.1.1.1 p.1.0) (both number_at (both number_at (both path_at path_at))) rest
step_of (suc (suc (suc (suc zero)))) rest = Some (step.Tidy, rest)
step_of (suc (suc (suc (suc (suc zero))))) rest = made step.Refill leg_at rest
step_of (suc (suc (suc (suc (suc (suc b)))))) rest = None

unfoldable pub step_at : Reads Step
step_at bytes = byte_at bytes >>= λ b. step_of b.0 b.1

unfoldable pub steps_at : Reads (List Step)
steps_at bytes = byte_at bytes >>= λ b. many step_at b.0 b.1

-- what a caller stored, by a byte 0 or 1
abbrev pub event_of : ℕ → ℕ → Reads StoredEvent
event_of caller zero rest = made (λ n. event.Batch caller n) number_at rest
event_of caller (suc zero) rest = made (λ steps. event.Move caller (record { steps = steps })) steps_at rest
event_of caller (suc (suc b)) rest = None

unfoldable pub event_at : Reads StoredEvent
event_at bytes = number_at bytes >>= λ caller. byte_at caller.1 >>= λ b. event_of caller.0 b.0 b.1

-- all of the bytes
abbrev pub all_of : StoredEvent × List ℕ → Option StoredEvent
all_of (stored, []) = Some stored
all_of (stored, b ∷ rest) = None

unfoldable pub spelled_by : List ℕ → Option StoredEvent
spelled_by bytes = event_at bytes >>= all_of

-- ---- what code gives: what reading gives, seen by view; or nothing where reading gives nothing

abbrev pub Gives : {X Y : Type 0} → (X → Y) → Option X → Option Y → Type 0
Gives view (Some x) read = read ≡ Some (view x)
Gives view None read = read ≡ None

-- the values read so far, and those of a reading that goes on
abbrev pub behind_front : {X : Type 0} → List X → Option (List X × List ℕ) → Option (List X × List ℕ)
behind_front front read = read >>= λ xs. Some (front ++ xs.0, xs.1)

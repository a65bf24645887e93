-- How the moves and the batches of a journal are spelled in bytes. A number is four bytes, the greatest first.
use Rattle.std.specs.Prelude.{ℕ, ◌^◌, ◌<◌, List, [], ◌∷◌, ◌++◌, length, Option, Some, None, IfSome}
use Rattle.std.specs.List.{flat_map, AllByRecursion}
use Rattle.std.specs.Int.{w32, to_be_bytes}
use Rattle.desk_units.specs.declared.numbers.Leg.{Leg}
use Rattle.desk_units.specs.declared.numbers.Cabin.{Cabin}
use Rattle.desk_units.specs.declared.numbers.Cabin.TheVariants as cabin
use Rattle.desk_data.specs.declared.row.Row.{Row}
use Rattle.desk_data.specs.declared.row.Row.TheVariants as row
use Rattle.plan_moves.specs.declared.moves.Step.{Step}
use Rattle.plan_moves.specs.declared.moves.Step.TheVariants as step
use Rattle.desk_journal.specs.declared.payload.StoredEvent.{StoredEvent}
use Rattle.desk_journal.specs.declared.payload.StoredEvent.TheVariants as event

abbrev pub number_bytes : ℕ → List ℕ
number_bytes n = to_be_bytes w32 n

-- a row: a byte 0, or a byte 1, the aircraft and the departure
abbrev pub row_bytes : Row → List ℕ
row_bytes row.Cancelled = 0 ∷ []
row_bytes (row.Flown plane dep) = 1 ∷ (number_bytes plane.0 ++ number_bytes dep.0)

-- a leg or none
abbrev pub after_bytes : Option Leg → List ℕ
after_bytes None = 0 ∷ []
after_bytes (Some leg) = 1 ∷ number_bytes leg.0

-- a pair of a path: the leg, and a byte for the cabin
abbrev pub cabin_byte : Cabin → ℕ
cabin_byte cabin.F = 0
cabin_byte cabin.B = 1
cabin_byte cabin.E = 2

abbrev pub pair_bytes : Leg × Cabin → List ℕ
pair_bytes pair = number_bytes pair.0.0 ++ (cabin_byte pair.1 ∷ [])

-- a path: its length in a byte, and its pairs
abbrev pub path_bytes : List (Leg × Cabin) → List ℕ
path_bytes path = length path ∷ flat_map pair_bytes path

-- a step: a byte for its kind, and what it is made of
abbrev pub step_bytes : Step → List ℕ
step_bytes (step.Set leg was new) = 0 ∷ (number_bytes leg.0 ++ (row_bytes was ++ row_bytes new))
step_bytes (step.Push plane after) = 1 ∷ (number_bytes plane.0 ++ after_bytes after)
step_bytes (step.Swap first second at) = 2 ∷ (number_bytes first.0 ++ (number_bytes second.0 ++ number_bytes at.0))
step_bytes (step.Rebook res path to count) = 3 ∷ (number_bytes res.0 ++ (number_bytes count ++ (path_bytes path ++ path_bytes to)))
step_bytes step.Tidy = 4 ∷ []
step_bytes (step.Refill leg) = 5 ∷ number_bytes leg.0

-- steps: how many in a byte, and each
abbrev pub steps_bytes : List Step → List ℕ
steps_bytes steps = length steps ∷ flat_map step_bytes steps

-- a payload spells what stands in a journal: the caller, and a byte 0 and the number of a batch, or a byte 1 and the steps of a move
abbrev pub payload : StoredEvent → List ℕ
payload (event.Batch caller number) = number_bytes caller ++ (0 ∷ number_bytes number)
payload (event.Move caller m) = number_bytes caller ++ (1 ∷ steps_bytes m.steps)

-- ---- what has a spelling

abbrev pub IsNumber : ℕ → Type 0
IsNumber n = n < 2 ^ 32

abbrev pub IsRow : Row → Type 0
IsRow row.Cancelled = Unit {0}
IsRow (row.Flown plane dep) = IsNumber plane.0 × IsNumber dep.0

abbrev pub IsPath : List (Leg × Cabin) → Type 0
IsPath path = (length path < 256) × AllByRecursion (λ pair. IsNumber pair.0.0) path

abbrev pub IsStep : Step → Type 0
IsStep (step.Set leg was new) = IsNumber leg.0 × (IsRow was × IsRow new)
IsStep (step.Push plane after) = IsNumber plane.0 × IfSome after (λ leg. IsNumber leg.0)
IsStep (step.Swap first second at) = IsNumber first.0 × (IsNumber second.0 × IsNumber at.0)
IsStep (step.Rebook res path to count) = IsNumber res.0 × (IsNumber count × (IsPath path × IsPath to))
IsStep step.Tidy = Unit {0}
IsStep (step.Refill leg) = IsNumber leg.0

abbrev pub AreSteps : List Step → Type 0
AreSteps steps = (length steps < 256) × AllByRecursion IsStep steps

abbrev pub HasSpelling : StoredEvent → Type 0
HasSpelling (event.Batch caller number) = IsNumber caller × IsNumber number
HasSpelling (event.Move caller m) = IsNumber caller × AreSteps m.steps

-- the lengths of a step's paths can be told in a byte
abbrev pub HasShortPaths : Step → Type 0
HasShortPaths (step.Rebook res path to count) = (length path < 256) × (length to < 256)
HasShortPaths other = Unit {0}

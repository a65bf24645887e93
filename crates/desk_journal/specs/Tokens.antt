-- The tokens of a move's steps, read from the left, and what each spells.
use Rattle.std.specs.Prelude.{◌≡◌, ℕ, Bool, true, false, List, Result, Ok, Err, bytes_eq, codes, if◌then◌else◌}
use Rattle.file_rows.specs.declared.cause.Cause.{Cause}
use Rattle.file_rows.specs.declared.cause.Cause.TheVariants.{Word}
use Rattle.desk_text.specs.declared.fault.RowFault.{RowFault}
use Rattle.desk_text.specs.declared.fault.RowFault.TheVariants as row_fault
use Rattle.desk_text.specs.Rows.{◌>>=◌, next_field}
use Rattle.desk_journal.specs.declared.kind.StepKind.{StepKind}
use Rattle.desk_journal.specs.declared.kind.StepKind.TheVariants as kinds

-- a form of tokens: which are names, which dates, as day numbers, and which times, as minutes of the day
pub record TokenReaders : Type 0 where
  pub name_of : List ℕ → Result (List ℕ) Cause
  pub date_of : List ℕ → Result ℕ Cause
  pub time_of : List ℕ → Result ℕ Cause

-- what is read from the left, and the tokens after it, or the cause for which it is refused
abbrev pub Reading : Type 0 → Type 0
Reading X = Result (X × List (List ℕ)) Cause

-- what the next token spells
abbrev pub token : {X : Type 0} → (List ℕ → Result X Cause) → List (List ℕ) → Reading X
token spells tokens = do
  next ← next_field tokens
  x ← spells next.0
  Ok (x, next.1)

-- a reader gives this value and leaves these tokens, or refuses with that cause
abbrev pub Takes : {X : Type 0} → Result X Cause → List (List ℕ) → Reading X → Type 0
Takes (Ok x) rest read = read ≡ Ok (x, rest)
Takes (Err cause) rest read = read ≡ Err cause

-- the same of a reader that may run out of memory at any time
abbrev pub TakesInMemory : {X : Type 0} → Result X RowFault → List (List ℕ) → Reading X → Type 0
TakesInMemory (Ok x) rest read = read ≡ Ok (x, rest)
TakesInMemory (Err (row_fault.Refused cause)) rest read = read ≡ Err cause
TakesInMemory (Err row_fault.Memory) rest read = Unit {0}

-- a step's first token
abbrev pub kind_of : List ℕ → Result StepKind Cause
kind_of token =
    if bytes_eq token (codes "set") then Ok kinds.Set else
    if bytes_eq token (codes "push") then Ok kinds.Push else
    if bytes_eq token (codes "swap") then Ok kinds.Swap else
    if bytes_eq token (codes "rebook") then Ok kinds.Rebook else
    if bytes_eq token (codes "tidy") then Ok kinds.Tidy else
    if bytes_eq token (codes "refill") then Ok kinds.Refill else
    Err Word

-- whether a row is flown: '+' for one that is, '-' for a cancelled one
abbrev pub flown_of : List ℕ → Result Bool Cause
flown_of token = if bytes_eq token (codes "+") then Ok true else (if bytes_eq token (codes "-") then Ok false else Err Word)

-- whether a push begins after a leg: 'after' where it does, 'all' where it takes all legs
abbrev pub later_of : List ℕ → Result Bool Cause
later_of token = if bytes_eq token (codes "after") then Ok true else (if bytes_eq token (codes "all") then Ok false else Err Word)

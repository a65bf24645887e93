-- What the lines of a file say, each of one thing that has a number.
use Rattle.std.specs.Prelude.{◌≡◌, ℕ, Bool, ◌==◌, List, map, fold, take, Option, Some, None, Result, Ok, Err, slice_index_or, slice_set, if◌then◌else◌}
use Rattle.std.specs.List.{range_with_len}
use Rattle.file_rows.specs.declared.cause.Cause.{Cause}
use Rattle.file_rows.specs.declared.cause.Cause.TheVariants.{Twice}
use Rattle.build_refusals.specs.First.{first_refusal_in}

-- how the lines of a file say something
pub record Statement (Line Stated Entry : Type 0) : Type 0 where
  -- the number of a line
  pub number : Line → ℕ
  -- what a line says, or why it is refused by itself
  pub stated : Line → Result Stated Cause
  -- the number of the thing that it is about
  pub about : Stated → ℕ
  -- what there is of a thing before any line
  pub none : Entry
  -- whether what is said is there already
  pub again : Stated → Entry → Bool
  -- what there is of the thing then
  pub add : Entry → Stated → Entry

-- what there is of thing x after a line
abbrev pub added : {Line Stated Entry : Type 0} → Statement Line Stated Entry → ℕ → Entry → Result Stated Cause → Entry
added T x entry (Ok stated) = if T.about stated == x then T.add entry stated else entry
added T x entry (Err why) = entry

-- what there is of thing x after these lines
unfoldable pub entry_among : {Line Stated Entry : Type 0} → Statement Line Stated Entry → List Line → ℕ → Entry
entry_among T lines x = fold (λ entry line. added T x entry (T.stated line)) T.none lines

-- why a line is refused: by itself, or as what it says is there already
abbrev pub cause_of : {Stated : Type 0} → (Stated → Bool) → Result Stated Cause → Option Cause
cause_of again (Ok stated) = if again stated then Some Twice else None
cause_of again (Err why) = Some why

-- why a line is refused after these lines
unfoldable pub line_cause : {Line Stated Entry : Type 0} → Statement Line Stated Entry → List Line → Line → Option Cause
line_cause T before line = cause_of (λ stated. T.again stated (entry_among T before (T.about stated))) (T.stated line)

-- the first line that is refused after those before it, with the cause
abbrev pub first_refused : {Line Stated Entry : Type 0} → Statement Line Stated Entry → List Line → Option (ℕ × Cause)
first_refused T lines = first_refusal_in (λ n line. line_cause T (take n lines) line) T.number lines

-- what is given, unless there is a refusal
abbrev pub unless : {Given : Type 0} → Option (ℕ × Cause) → Given → Result Given (ℕ × Cause)
unless None given = Ok given
unless (Some refusal) given = Err refusal

-- what all lines say of each of so many things, in the order of their numbers, or the first line that is refused
unfoldable pub entries_stated : {Line Stated Entry : Type 0} → Statement Line Stated Entry → ℕ → List Line → Result (List Entry) (ℕ × Cause)
entries_stated T size lines = unless (first_refused T lines) (map (entry_among T lines) (range_with_len 0 size))

-- the thing of a line has what the line adds, and all others stay
abbrev pub Adds : {Line Stated Entry : Type 0} → Statement Line Stated Entry → Result Stated Cause → List Entry → List Entry → Type 0
Adds T (Ok stated) before after = after ≡ slice_set before (T.about stated) (T.add (slice_index_or before (T.about stated) T.none) stated)
Adds T (Err why) before after = after ≡ before

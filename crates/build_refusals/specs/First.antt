-- The first row of a file that is refused.
use Rattle.std.specs.Prelude.{ℕ, ◌+◌, List, [], ◌∷◌, Option, Some, None}
use Rattle.std.specs.Option.{option_map_or}
use Rattle.file_rows.specs.declared.cause.Cause.{Cause}

-- the first row that has a cause, by its line; the cause and the line may hang on how many rows stand before it
unfoldable pub refusal_from : {Row : Type 0} → (ℕ → Row → Option Cause) → (ℕ → Row → ℕ) → ℕ → List Row → Option (ℕ × Cause)
refusal_from cause line n [] = None
refusal_from cause line n (row ∷ rows) = option_map_or (λ why. Some (line n row, why)) (cause n row) (refusal_from cause line (n + 1) rows)

abbrev pub first_refusal_in : {Row : Type 0} → (ℕ → Row → Option Cause) → (Row → ℕ) → List Row → Option (ℕ × Cause)
first_refusal_in cause line rows = refusal_from cause (λ n row. line row) 0 rows

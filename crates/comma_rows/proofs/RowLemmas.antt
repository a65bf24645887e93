-- The rows of the records that are left, as a loop reads them.
use Rattle.std.proofs.Common.{◌≡◌, ℕ, ◌+◌, ◌<◌, ◌≤◌, List, [], ◌∷◌, ◌++◌, length, cond, Result, Ok, Err, sym, ap, subst, ◌∙◌, refl, append_assoc}
use Rattle.std.proofs.lemmas.Bool.{le-leb, lt-leb}
use Rattle.std.proofs.lemmas.List.{append-nil}
use Rattle.file_rows.specs.declared.cause.Cause.{Cause}
use Rattle.file_rows.specs.declared.cause.Cause.TheVariants.{Size}
use Rattle.desk_text.specs.declared.fault.ReadFault.{ReadFault}
use Rattle.desk_text.specs.declared.fault.RowFault.{RowFault}
use Rattle.desk_text.specs.declared.fault.RowFault.TheVariants as row_fault
use Rattle.desk_text.specs.Rows.{◌>>=◌, RowOf, at_line, GivesRow, Gives, fault_at}
use Rattle.desk_text.proofs.RowLemmas.{prepended}
use Rattle.comma_rows.specs.Records.{rows_from, comma_rows, text_records}

module _ {Row : Type 0} (row : RowOf Row) (before : List Row) (total : Result (List Row) (ℕ × Cause)) where
  one_more : (x : Row) (read : Result (List Row) (ℕ × Cause)) → prepended (before ++ x ∷ []) read ≡ prepended before (read >>= λ rows. Ok (x ∷ rows))
  one_more x (Ok rows) = ap Ok (append_assoc before (x ∷ []) rows)
  one_more x (Err e) = refl

  -- a record gives a row
  pub goes_on : (n : ℕ) (fields : List (List ℕ)) (records old : List (List (List ℕ))) (x : Row) → old ≡ fields ∷ records → row n fields ≡ Ok x
      → prepended before (rows_from row n old) ≡ total → prepended (before ++ x ∷ []) (rows_from row (n + 1) records) ≡ total
  unfolding rows_from
  goes_on n fields records old x e gives so_far =
      one_more x (rows_from row (n + 1) records)
      ∙ ap (λ (r : Result Row Cause). prepended before (at_line n r >>= λ first. rows_from row (n + 1) records >>= λ others. Ok (first ∷ others))) (sym gives)
      ∙ ap (λ (all : List (List (List ℕ))). prepended before (rows_from row n all)) (sym e)
      ∙ so_far

  -- a record is refused
  refused : (n : ℕ) (fields : List (List ℕ)) (records old : List (List (List ℕ))) (cause : Cause) → old ≡ fields ∷ records → row n fields ≡ Err cause
      → prepended before (rows_from row n old) ≡ total → total ≡ Err (n, cause)
  unfolding rows_from
  refused n fields records old cause e gives so_far =
      sym so_far
      ∙ ap (λ (all : List (List (List ℕ))). prepended before (rows_from row n all)) e
      ∙ ap (λ (r : Result Row Cause). prepended before (at_line n r >>= λ first. rows_from row (n + 1) records >>= λ others. Ok (first ∷ others))) gives

  -- a record gives no row, and so ends the reading
  pub stops : {Answer : Type 0} (rows : Answer → List Row) (n : ℕ) (fields : List (List ℕ)) (records old : List (List (List ℕ))) (fault : RowFault) (end : ReadFault) → old ≡ fields ∷ records → GivesRow (Err fault) (row n fields)
      → end ≡ fault_at n fault → prepended before (rows_from row n old) ≡ total → Gives rows (Err end) total
  stops rows n fields records old (row_fault.Refused cause) end e gives is so_far = subst (λ (f : ReadFault). Gives rows (Err f) total) (sym is) (refused n fields records old cause e gives so_far)
  stops rows n fields records old row_fault.Memory end e gives is so_far = subst (λ (f : ReadFault). Gives rows (Err f) total) (sym is) tt

  -- there are no more records
  pub ended : (n : ℕ) (records : List (List (List ℕ))) → records ≡ [] → prepended before (rows_from row n records) ≡ total → total ≡ Ok before
  unfolding rows_from
  ended n records none so_far = sym so_far ∙ ap (λ (all : List (List (List ℕ))). prepended before (rows_from row n all)) none ∙ ap Ok (append-nil before)

-- nothing was read yet
pub begins : {Row : Type 0} (read : Result (List Row) (ℕ × Cause)) → prepended [] read ≡ read
begins (Ok rows) = refl
begins (Err e) = refl

module _ {Row : Type 0} (row : RowOf Row) (limit : ℕ) (bytes : List ℕ) where
  -- a text that has too many bytes
  pub too_long : limit < length bytes → comma_rows limit row bytes ≡ Err (0, Size)
  unfolding comma_rows
  too_long many = ap (λ b. cond b (rows_from row 1 (text_records bytes)) (Err (0, Size))) (lt-leb (length bytes) limit many)

  -- a text that has not
  pub short_enough : length bytes ≤ limit → rows_from row 1 (text_records bytes) ≡ comma_rows limit row bytes
  unfolding comma_rows
  short_enough few = ap (λ b. cond b (rows_from row 1 (text_records bytes)) (Err (0, Size))) (sym (le-leb (length bytes) limit few))

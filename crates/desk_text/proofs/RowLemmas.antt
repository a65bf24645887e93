-- The rows of the lines that are left, as a loop reads them.
use Rattle.std.proofs.Common.{◌≡◌, ℕ, List, [], ◌∷◌, ◌++◌, Result, Ok, Err, length, cond, ◌<◌, ◌≤◌, refl, sym, ap, subst, ◌∙◌, append_assoc}
use Rattle.std.proofs.lemmas.Bool.{le-leb, lt-leb}
use Rattle.std.proofs.lemmas.List.{append-nil}
use Rattle.file_rows.specs.declared.cause.Cause.{Cause}
use Rattle.file_rows.specs.declared.cause.Cause.TheVariants.{Size}
use Rattle.desk_text.specs.declared.fault.ReadFault.{ReadFault}
use Rattle.desk_text.specs.declared.fault.RowFault.{RowFault}
use Rattle.desk_text.specs.declared.fault.RowFault.TheVariants as row_fault
use Rattle.desk_text.specs.Lines.{text_lines}
use Rattle.desk_text.specs.Rows.{◌>>=◌, RowOf, line_row, at_line, rows_of_lines, text_rows, GivesRow, Gives, fault_at}

-- these rows, and after them those that are read
abbrev pub prepended : {Row : Type 0} → List Row → Result (List Row) (ℕ × Cause) → Result (List Row) (ℕ × Cause)
prepended before (Ok rows) = Ok (before ++ rows)
prepended before (Err e) = Err e

module _ {Row : Type 0} (row : RowOf Row) (before : List Row) (total : Result (List Row) (ℕ × Cause)) where
  one_more : (x : Row) (read : Result (List Row) (ℕ × Cause)) → prepended (before ++ x ∷ []) read ≡ prepended before (read >>= λ rows. Ok (x ∷ rows))
  one_more x (Ok rows) = ap Ok (append_assoc before (x ∷ []) rows)
  one_more x (Err e) = refl

  -- a line gives a row
  pub goes_on : (number : ℕ) (line : List ℕ) (lines old : List (ℕ × List ℕ)) (x : Row) → old ≡ (number, line) ∷ lines → line_row row number line ≡ Ok x → prepended before (rows_of_lines row old) ≡ total → prepended (before ++ x ∷ []) (rows_of_lines row lines) ≡ total
  unfolding rows_of_lines
  goes_on number line lines old x e gives so_far =
      one_more x (rows_of_lines row lines)
      ∙ ap (λ (r : Result Row Cause). prepended before (at_line number r >>= λ first. rows_of_lines row lines >>= λ others. Ok (first ∷ others))) (sym gives)
      ∙ ap (λ (ls : List (ℕ × List ℕ)). prepended before (rows_of_lines row ls)) (sym e)
      ∙ so_far

  -- a line is refused
  pub refused : (number : ℕ) (line : List ℕ) (lines old : List (ℕ × List ℕ)) (cause : Cause) → old ≡ (number, line) ∷ lines → line_row row number line ≡ Err cause → prepended before (rows_of_lines row old) ≡ total → total ≡ Err (number, cause)
  unfolding rows_of_lines
  refused number line lines old cause e gives so_far =
      sym so_far
      ∙ ap (λ (ls : List (ℕ × List ℕ)). prepended before (rows_of_lines row ls)) e
      ∙ ap (λ (r : Result Row Cause). prepended before (at_line number r >>= λ first. rows_of_lines row lines >>= λ others. Ok (first ∷ others))) gives

  -- a line gives no row, and so ends the reading
  pub stops : {Answer : Type 0} (rows : Answer → List Row) (number : ℕ) (line : List ℕ) (lines old : List (ℕ × List ℕ)) (fault : RowFault) (end : ReadFault) → old ≡ (number, line) ∷ lines → GivesRow (Err fault) (line_row row number line)
      → end ≡ fault_at number fault → prepended before (rows_of_lines row old) ≡ total → Gives rows (Err end) total
  stops rows number line lines old (row_fault.Refused cause) end e gives is so_far = subst (λ (f : ReadFault). Gives rows (Err f) total) (sym is) (refused number line lines old cause e gives so_far)
  stops rows number line lines old row_fault.Memory end e gives is so_far = subst (λ (f : ReadFault). Gives rows (Err f) total) (sym is) tt

  -- there are no more lines
  pub ended : (lines : List (ℕ × List ℕ)) → lines ≡ [] → prepended before (rows_of_lines row lines) ≡ total → total ≡ Ok before
  unfolding rows_of_lines
  ended lines none so_far = sym so_far ∙ ap (λ (ls : List (ℕ × List ℕ)). prepended before (rows_of_lines row ls)) none ∙ ap Ok (append-nil before)

nothing_before : {Row : Type 0} (read : Result (List Row) (ℕ × Cause)) → prepended [] read ≡ read
nothing_before (Ok rows) = refl
nothing_before (Err e) = refl

-- nothing was read yet
pub begins : {Row : Type 0} (row : RowOf Row) (lines : List (ℕ × List ℕ)) → prepended [] (rows_of_lines row lines) ≡ rows_of_lines row lines
begins row lines = nothing_before (rows_of_lines row lines)

module _ {Row : Type 0} (row : RowOf Row) (limit : ℕ) (bytes : List ℕ) where
  -- a text that has too many bytes
  pub too_long : limit < length bytes → text_rows limit row bytes ≡ Err (0, Size)
  unfolding text_rows
  too_long many = ap (λ b. cond b (rows_of_lines row (text_lines bytes)) (Err (0, Size))) (lt-leb (length bytes) limit many)

  -- a text that has not
  pub short_enough : length bytes ≤ limit → rows_of_lines row (text_lines bytes) ≡ text_rows limit row bytes
  unfolding text_rows
  short_enough few = ap (λ b. cond b (rows_of_lines row (text_lines bytes)) (Err (0, Size))) (sym (le-leb (length bytes) limit few))

-- A path that is joined leg by leg.
use Rattle.std.proofs.Common.{◌≡◌, ℕ, suc, ◌+◌, ◌<◌, ◌≤◌, List, [], ◌∷◌, ◌++◌, length, drop, get_or, Result, Ok, Err, refl, sym, ap, subst, ◌∙◌, arith, drop-cons, append_assoc}
use Rattle.std.proofs.Math.ListN.{drop_of_length-le}
use Rattle.std.proofs.lemmas.List.{append-nil}
use Rattle.std.specs.Result.{IsErrAnd}
use Rattle.desk_units.specs.declared.numbers.Cabin.{Cabin}
use Rattle.desk_units.specs.declared.numbers.Leg.{Leg}
use Rattle.file_rows.specs.declared.cause.Cause.{Cause}
use Rattle.file_rows.specs.declared.passengers.LegRow.{LegRow}
use Rattle.desk_text.specs.declared.fault.RowFault.{RowFault}
use Rattle.desk_text.specs.declared.fault.RowFault.TheVariants as row_fault
use Rattle.desk_text.specs.Rows.{◌>>=◌, GivesRow}
use Rattle.desk_data.specs.Situation.{Situation}
use Rattle.file_joins.specs.Stated.{seat_of, path_of}

abbrev Seats : Type 0
Seats = List (Leg × Cabin)

-- these legs, and after them those that are still joined
abbrev pub prepended : Seats → Result Seats Cause → Result Seats Cause
prepended before (Ok seats) = Ok (before ++ seats)
prepended before (Err e) = Err e

one_more : (before : Seats) (seat : Leg × Cabin) (rest : Result Seats Cause) → prepended (before ++ seat ∷ []) rest ≡ prepended before (rest >>= λ seats. Ok (seat ∷ seats))
one_more before seat (Ok seats) = ap Ok (append_assoc before (seat ∷ []) seats)
one_more before seat (Err e) = refl

nothing_before : (rest : Result Seats Cause) → prepended [] rest ≡ rest
nothing_before (Ok seats) = refl
nothing_before (Err e) = refl

module _ (I : Situation) (rows : List LegRow) where
  -- nothing is joined yet
  pub begins : prepended [] (path_of I rows) ≡ path_of I rows
  begins = nothing_before (path_of I rows)

  rest_at : (k : ℕ) (row : LegRow) → k < length rows → row ≡ get_or rows k row → drop k rows ≡ row ∷ drop (k + 1) rows
  rest_at k row below is =
      let next : suc k ≡ k + 1 = omega arith in
      drop-cons rows k row below ∙ (λ i. sym is i ∷ drop (next i) rows)

  from_here : (before : Seats) (k : ℕ) (row : LegRow) (total : Result Seats Cause) → k < length rows → row ≡ get_or rows k row → prepended before (path_of I (drop k rows)) ≡ total
      → prepended before (seat_of I row >>= λ seat. path_of I (drop (k + 1) rows) >>= λ seats. Ok (seat ∷ seats)) ≡ total
  unfolding path_of
  from_here before k row total below is so_far = sym (ap (λ (rest : List LegRow). prepended before (path_of I rest)) (rest_at k row below is)) ∙ so_far

  -- one gives something
  pub goes_on : (before : Seats) (k : ℕ) (row : LegRow) (seat : Leg × Cabin) (total : Result Seats Cause) → k < length rows → row ≡ get_or rows k row → seat_of I row ≡ Ok seat → prepended before (path_of I (drop k rows)) ≡ total
      → prepended (before ++ seat ∷ []) (path_of I (drop (k + 1) rows)) ≡ total
  goes_on before k row seat total below is gives so_far =
      one_more before seat (path_of I (drop (k + 1) rows))
      ∙ ap (λ (r : Result (Leg × Cabin) Cause). prepended before (r >>= λ z. path_of I (drop (k + 1) rows) >>= λ seats. Ok (z ∷ seats))) (sym gives)
      ∙ from_here before k row total below is so_far

  -- one is refused
  refused : (before : Seats) (k : ℕ) (row : LegRow) (e : Cause) (total : Result Seats Cause) → k < length rows → row ≡ get_or rows k row → seat_of I row ≡ Err e → prepended before (path_of I (drop k rows)) ≡ total → total ≡ Err e
  refused before k row e total below is gives so_far =
      sym (from_here before k row total below is so_far)
      ∙ ap (λ (r : Result (Leg × Cabin) Cause). prepended before (r >>= λ z. path_of I (drop (k + 1) rows) >>= λ seats. Ok (z ∷ seats))) gives

  -- all are joined
  pub ends : (before : Seats) (k : ℕ) (total : Result Seats Cause) → length rows ≤ k → prepended before (path_of I (drop k rows)) ≡ total → total ≡ Ok before
  unfolding path_of
  ends before k total over so_far =
      sym so_far ∙ ap (λ (rest : List LegRow). prepended before (path_of I rest)) (drop_of_length-le rows {i = k} over) ∙ ap Ok (append-nil before)

  -- an answer that is the fault of one that is refused
  pub stops : (result : Result Seats RowFault) (before : Seats) (k : ℕ) (row : LegRow) (e : Cause) (total : Result Seats Cause) → k < length rows → row ≡ get_or rows k row → seat_of I row ≡ Err e
      → IsErrAnd result (λ fault. fault ≡ row_fault.Refused e) → prepended before (path_of I (drop k rows)) ≡ total → GivesRow result total
  stops (Ok x) before k row e total below is gives stated so_far = absurd stated
  stops (Err fault) before k row e total below is gives stated so_far =
      subst (λ (f : RowFault). GivesRow {Row = Seats} (Err f) total) (sym stated) (refused before k row e total below is gives so_far)

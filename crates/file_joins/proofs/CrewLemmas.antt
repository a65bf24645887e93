-- The crews of rows, joined one by one, each after those before it.
use Rattle.std.proofs.Common.{◌≡◌, ℕ, suc, ◌+◌, ◌<◌, ◌≤◌, Bool, true, false, not, cond, ◌||◌, List, [], ◌∷◌, ◌++◌, length, take, drop, get_or, Result, Ok, Err, bytes_eq, refl, sym, ap, subst, ◌∙◌, arith, drop-cons, append_assoc}
use Rattle.std.specs.declared.alloc.Global.{Global}
use Rattle.std.specs.declared.vec.Vec.{Vec}
use Rattle.std.proofs.lemmas.List.Folds.{list_any-append}
use Rattle.std.proofs.Math.ListN.{drop_of_length-le}
use Rattle.std.proofs.lemmas.List.{append-nil, take_more}
use Rattle.file_rows.specs.declared.cause.Cause.{Cause}
use Rattle.desk_text.specs.declared.fault.ReadFault.{ReadFault}
use Rattle.desk_text.specs.declared.fault.RowFault.{RowFault}
use Rattle.desk_text.specs.declared.fault.RowFault.TheVariants as row_fault
use Rattle.desk_text.specs.Rows.{◌>>=◌, at_line, Gives, GivesRow, fault_at}
use Rattle.desk_data.specs.Situation.{Situation}
use Rattle.file_readers.specs.declared.crew_row.CrewRow.{CrewRow}
use Rattle.crew_rules.specs.declared.crew.CrewInfo.{CrewInfo}
use Rattle.file_joins.specs.CrewJoin.{has_name, crew_stated, crews_after}

-- these crews, and after them those that are still joined
abbrev pub prepended : List CrewInfo → Result (List CrewInfo) (ℕ × Cause) → Result (List CrewInfo) (ℕ × Cause)
prepended before (Ok crews) = Ok (before ++ crews)
prepended before (Err e) = Err e

one_more : (before : List CrewInfo) (crew : CrewInfo) (rest : Result (List CrewInfo) (ℕ × Cause)) → prepended (before ++ crew ∷ []) rest ≡ prepended before (rest >>= λ crews. Ok (crew ∷ crews))
one_more before crew (Ok crews) = ap Ok (append_assoc before (crew ∷ []) crews)
one_more before crew (Err e) = refl

nothing_before : (rest : Result (List CrewInfo) (ℕ × Cause)) → prepended [] rest ≡ rest
nothing_before (Ok crews) = refl
nothing_before (Err e) = refl

module _ (I : Situation) (rows : List CrewRow) where
  -- nothing is joined yet
  pub begins : prepended [] (crews_after I [] rows) ≡ crews_after I [] rows
  begins = nothing_before (crews_after I [] rows)

  rest_at : (k : ℕ) (row : CrewRow) → k < length rows → row ≡ get_or rows k row → drop k rows ≡ row ∷ drop (k + 1) rows
  rest_at k row below is =
      let next : suc k ≡ k + 1 = omega arith in
      drop-cons rows k row below ∙ (λ i. sym is i ∷ drop (next i) rows)

  pub before_next : (k : ℕ) (row : CrewRow) → k < length rows → row ≡ get_or rows k row → take (k + 1) rows ≡ take k rows ++ row ∷ []
  before_next k row below is = take_more rows k row below ∙ ap (λ (y : CrewRow). take k rows ++ y ∷ []) (sym is)

  from_here : (before : List CrewInfo) (k : ℕ) (row : CrewRow) (total : Result (List CrewInfo) (ℕ × Cause)) → k < length rows → row ≡ get_or rows k row → prepended before (crews_after I (take k rows) (drop k rows)) ≡ total
      → prepended before (at_line row.line (crew_stated I (take k rows) row) >>= λ crew. crews_after I (take (k + 1) rows) (drop (k + 1) rows) >>= λ crews. Ok (crew ∷ crews)) ≡ total
  unfolding crews_after
  from_here before k row total below is so_far =
      ap (λ (front : List CrewRow). prepended before (at_line row.line (crew_stated I (take k rows) row) >>= λ crew. crews_after I front (drop (k + 1) rows) >>= λ crews. Ok (crew ∷ crews))) (before_next k row below is)
      ∙ sym (ap (λ (rest : List CrewRow). prepended before (crews_after I (take k rows) rest)) (rest_at k row below is)) ∙ so_far

  -- one gives a crew
  pub goes_on : (before : List CrewInfo) (k : ℕ) (row : CrewRow) (crew : CrewInfo) (total : Result (List CrewInfo) (ℕ × Cause)) → k < length rows → row ≡ get_or rows k row → crew_stated I (take k rows) row ≡ Ok crew
      → prepended before (crews_after I (take k rows) (drop k rows)) ≡ total → prepended (before ++ crew ∷ []) (crews_after I (take (k + 1) rows) (drop (k + 1) rows)) ≡ total
  goes_on before k row crew total below is gives so_far =
      one_more before crew (crews_after I (take (k + 1) rows) (drop (k + 1) rows))
      ∙ ap (λ (r : Result CrewInfo Cause). prepended before (at_line row.line r >>= λ z. crews_after I (take (k + 1) rows) (drop (k + 1) rows) >>= λ crews. Ok (z ∷ crews))) (sym gives)
      ∙ from_here before k row total below is so_far

  -- one is refused
  pub refused : (before : List CrewInfo) (k : ℕ) (row : CrewRow) (e : Cause) (total : Result (List CrewInfo) (ℕ × Cause)) → k < length rows → row ≡ get_or rows k row → crew_stated I (take k rows) row ≡ Err e
      → prepended before (crews_after I (take k rows) (drop k rows)) ≡ total → total ≡ Err (row.line, e)
  refused before k row e total below is gives so_far =
      sym (from_here before k row total below is so_far)
      ∙ ap (λ (r : Result CrewInfo Cause). prepended before (at_line row.line r >>= λ z. crews_after I (take (k + 1) rows) (drop (k + 1) rows) >>= λ crews. Ok (z ∷ crews))) gives

  -- all are joined
  pub ends : (before : List CrewInfo) (k : ℕ) (total : Result (List CrewInfo) (ℕ × Cause)) → length rows ≤ k → prepended before (crews_after I (take k rows) (drop k rows)) ≡ total → total ≡ Ok before
  unfolding crews_after
  ends before k total over so_far =
      sym so_far ∙ ap (λ (rest : List CrewRow). prepended before (crews_after I (take k rows) rest)) (drop_of_length-le rows {i = k} over) ∙ ap Ok (append-nil before)

  -- an answer that is the fault of one that is refused, at its line
  pub stops : (before : List CrewInfo) (k : ℕ) (row : CrewRow) (fault : RowFault) (answer : ReadFault) (total : Result (List CrewInfo) (ℕ × Cause)) → k < length rows → row ≡ get_or rows k row → answer ≡ fault_at row.line fault
      → GivesRow {Row = CrewInfo} (Err fault) (crew_stated I (take k rows) row) → prepended before (crews_after I (take k rows) (drop k rows)) ≡ total → Gives (λ (crews : Vec CrewInfo Global). crews.items) (Err answer) total
  stops before k row (row_fault.Refused cause) answer total below is at gives so_far =
      subst (λ (f : ReadFault). Gives (λ (crews : Vec CrewInfo Global). crews.items) (Err f) total) (sym at) (refused before k row cause total below is gives so_far)
  stops before k row row_fault.Memory answer total below is at gives so_far =
      subst (λ (f : ReadFault). Gives (λ (crews : Vec CrewInfo Global). crews.items) (Err f) total) (sym at) tt

-- ---- the names so far

cond-or : (a b : Bool) → cond b true a ≡ (a || (b || false))
cond-or true true = refl
cond-or true false = refl
cond-or false true = refl
cond-or false false = refl

pub seen_more : (name : List ℕ) (rows : List CrewRow) (k : ℕ) (row : CrewRow) → k < length rows → row ≡ get_or rows k row → cond (bytes_eq row.name name) true (has_name name (take k rows)) ≡ has_name name (take (k + 1) rows)
seen_more name rows k row below is = rw (take_more rows k row below, ← is, list_any-append) (cond-or _ _)

-- a name was seen before exactly where it is not new
pub again_is : (added has seen : Bool) → added ≡ not has → has ≡ seen → seen ≡ not added
again_is added true seen e f = sym f ∙ (rw e refl)
again_is added false seen e f = sym f ∙ (rw e refl)

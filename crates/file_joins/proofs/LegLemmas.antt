-- The legs of a row, joined one by one.
use Rattle.std.proofs.Common.{◌≡◌, ◌≢◌, ℕ, suc, true, false, not, eqb, ◌+◌, ◌<◌, ◌≤◌, List, [], ◌∷◌, ◌++◌, length, drop, get_or, Result, Ok, Err, refl, sym, ap, subst, ◌∙◌, arith, drop-cons, append_assoc}
use Rattle.std.proofs.Math.ListN.{drop_of_length-le}
use Rattle.std.proofs.lemmas.List.{append-nil}
use Rattle.std.specs.Prelude.{All}
use Rattle.std.specs.List.{AllPairs, list_any}
use Rattle.std.specs.Result.{IsErrAnd}
use Rattle.std.proofs.lemmas.Bool.{and_parts, or_parts, eqb-false, not-true}
use Rattle.std.proofs.lemmas.List.Elements.{All-nil, All-cons}
use Rattle.std.proofs.lemmas.List.Kept.{AllPairs-cons}
use Rattle.desk_data.proofs.PathOrder.{pairs_nil}
use Rattle.desk_units.specs.declared.numbers.Leg.{Leg}
use Rattle.file_rows.specs.declared.cause.Cause.{Cause}
use Rattle.file_readers.specs.declared.crew_row.CrewLeg.{CrewLeg}
use Rattle.desk_text.specs.declared.fault.RowFault.{RowFault}
use Rattle.desk_text.specs.declared.fault.RowFault.TheVariants as row_fault
use Rattle.desk_text.specs.Rows.{◌>>=◌, GivesRow}
use Rattle.desk_data.specs.Situation.{Situation}
use Rattle.file_joins.specs.CrewJoin.{leg_of, legs_of, are_apart}

-- these legs, and after them those that are still joined
abbrev pub prepended : List Leg → Result (List Leg) Cause → Result (List Leg) Cause
prepended before (Ok legs) = Ok (before ++ legs)
prepended before (Err e) = Err e

one_more : (before : List Leg) (leg : Leg) (rest : Result (List Leg) Cause) → prepended (before ++ leg ∷ []) rest ≡ prepended before (rest >>= λ legs. Ok (leg ∷ legs))
one_more before leg (Ok legs) = ap Ok (append_assoc before (leg ∷ []) legs)
one_more before leg (Err e) = refl

nothing_before : (rest : Result (List Leg) Cause) → prepended [] rest ≡ rest
nothing_before (Ok legs) = refl
nothing_before (Err e) = refl

module _ (I : Situation) (rows : List CrewLeg) where
  -- nothing is joined yet
  pub begins : prepended [] (legs_of I rows) ≡ legs_of I rows
  begins = nothing_before (legs_of I rows)

  rest_at : (k : ℕ) (row : CrewLeg) → k < length rows → row ≡ get_or rows k row → drop k rows ≡ row ∷ drop (k + 1) rows
  rest_at k row below is =
      let next : suc k ≡ k + 1 = omega arith in
      drop-cons rows k row below ∙ (λ i. sym is i ∷ drop (next i) rows)

  from_here : (before : List Leg) (k : ℕ) (row : CrewLeg) (total : Result (List Leg) Cause) → k < length rows → row ≡ get_or rows k row → prepended before (legs_of I (drop k rows)) ≡ total
      → prepended before (leg_of I row >>= λ leg. legs_of I (drop (k + 1) rows) >>= λ legs. Ok (leg ∷ legs)) ≡ total
  unfolding legs_of
  from_here before k row total below is so_far = sym (ap (λ (rest : List CrewLeg). prepended before (legs_of I rest)) (rest_at k row below is)) ∙ so_far

  -- one gives something
  pub goes_on : (before : List Leg) (k : ℕ) (row : CrewLeg) (leg : Leg) (total : Result (List Leg) Cause) → k < length rows → row ≡ get_or rows k row → leg_of I row ≡ Ok leg → prepended before (legs_of I (drop k rows)) ≡ total
      → prepended (before ++ leg ∷ []) (legs_of I (drop (k + 1) rows)) ≡ total
  goes_on before k row leg total below is gives so_far =
      one_more before leg (legs_of I (drop (k + 1) rows))
      ∙ ap (λ (r : Result Leg Cause). prepended before (r >>= λ z. legs_of I (drop (k + 1) rows) >>= λ legs. Ok (z ∷ legs))) (sym gives)
      ∙ from_here before k row total below is so_far

  -- one is refused
  refused : (before : List Leg) (k : ℕ) (row : CrewLeg) (e : Cause) (total : Result (List Leg) Cause) → k < length rows → row ≡ get_or rows k row → leg_of I row ≡ Err e → prepended before (legs_of I (drop k rows)) ≡ total → total ≡ Err e
  refused before k row e total below is gives so_far =
      sym (from_here before k row total below is so_far)
      ∙ ap (λ (r : Result Leg Cause). prepended before (r >>= λ z. legs_of I (drop (k + 1) rows) >>= λ legs. Ok (z ∷ legs))) gives

  -- all are joined
  pub ends : (before : List Leg) (k : ℕ) (total : Result (List Leg) Cause) → length rows ≤ k → prepended before (legs_of I (drop k rows)) ≡ total → total ≡ Ok before
  unfolding legs_of
  ends before k total over so_far =
      sym so_far ∙ ap (λ (rest : List CrewLeg). prepended before (legs_of I rest)) (drop_of_length-le rows {i = k} over) ∙ ap Ok (append-nil before)

  -- an answer that is the fault of one that is refused
  pub stops : (result : Result (List Leg) RowFault) (before : List Leg) (k : ℕ) (row : CrewLeg) (e : Cause) (total : Result (List Leg) Cause) → k < length rows → row ≡ get_or rows k row → leg_of I row ≡ Err e
      → IsErrAnd result (λ fault. fault ≡ row_fault.Refused e) → prepended before (legs_of I (drop k rows)) ≡ total → GivesRow result total
  stops (Ok x) before k row e total below is gives stated so_far = absurd stated
  stops (Err fault) before k row e total below is gives stated so_far =
      subst (λ (f : RowFault). GivesRow {Row = List Leg} (Err f) total) (sym stated) (refused before k row e total below is gives so_far)

-- ---- legs of which none stands twice

not_here : (x : Leg) (xs : List Leg) → list_any (λ other. eqb other.0 x.0) xs ≡ false → All (λ y. x.0 ≢ y.0) xs
not_here x [] h = All-nil (λ y. x.0 ≢ y.0)
not_here x (y ∷ ys) h =
    let both = or_parts (eqb y.0 x.0) (list_any (λ other. eqb other.0 x.0) ys) h in
    All-cons (λ y. x.0 ≢ y.0) y ys (λ same. eqb-false y.0 x.0 both.0 (sym same)) (not_here x ys both.1)

pub apart_holds : (legs : List Leg) → are_apart legs ≡ true → AllPairs (λ x y. x.0 ≢ y.0) legs
apart_holds [] h = pairs_nil (λ x y. x.0 ≢ y.0)
apart_holds (x ∷ xs) h =
    let both = and_parts (not (list_any (λ other. eqb other.0 x.0) xs)) (are_apart xs) h in
    AllPairs-cons (λ x y. x.0 ≢ y.0) x xs (not_here x xs (not-true (list_any (λ other. eqb other.0 x.0) xs) both.0)) (apart_holds xs both.1)

leg_at : (legs : List Leg) (k : ℕ) (leg : Leg) → k < length legs → leg ≡ get_or legs k leg → drop k legs ≡ leg ∷ drop (k + 1) legs
leg_at legs k leg below is =
    let next : suc k ≡ k + 1 = omega arith in
    drop-cons legs k leg below ∙ (λ i. sym is i ∷ drop (next i) legs)

pub apart_goes_on : (legs : List Leg) (k : ℕ) (leg : Leg) → k < length legs → leg ≡ get_or legs k leg → list_any (λ other. eqb other.0 leg.0) (drop (k + 1) legs) ≡ false → are_apart legs ≡ are_apart (drop k legs) → are_apart legs ≡ are_apart (drop (k + 1) legs)
apart_goes_on legs k leg below is none so_far = so_far ∙ ap are_apart (leg_at legs k leg below is) ∙ rw none refl

pub apart_breaks : (legs : List Leg) (k : ℕ) (leg : Leg) → k < length legs → leg ≡ get_or legs k leg → list_any (λ other. eqb other.0 leg.0) (drop (k + 1) legs) ≡ true → are_apart legs ≡ are_apart (drop k legs) → false ≡ are_apart legs
apart_breaks legs k leg below is some so_far = sym (so_far ∙ ap are_apart (leg_at legs k leg below is) ∙ rw some refl)

pub apart_ends : (legs : List Leg) (k : ℕ) → length legs ≤ k → are_apart legs ≡ are_apart (drop k legs) → true ≡ are_apart legs
apart_ends legs k end so_far = sym (so_far ∙ ap are_apart (drop_of_length-le legs {i = k} end))

-- Lists that are joined one by one, and what holds of all that is joined.
use Rattle.std.proofs.Common.{◌≡◌, ℕ, suc, ◌+◌, ◌<◌, ◌≤◌, List, [], ◌∷◌, ◌++◌, length, drop, get_or, Result, Ok, Err, refl, sym, ap, subst, ◌∙◌, arith, drop-cons, append_assoc}
use Rattle.std.specs.List.{AllByRecursion}
use Rattle.std.proofs.Math.ListN.{drop_of_length-le}
use Rattle.std.proofs.lemmas.List.{append-nil}
use Rattle.std.specs.Result.{IsErrAnd}
use Rattle.file_rows.specs.declared.cause.Cause.{Cause}
use Rattle.desk_text.specs.declared.fault.RowFault.{RowFault}
use Rattle.desk_text.specs.declared.fault.RowFault.TheVariants as row_fault
use Rattle.desk_text.specs.Rows.{◌>>=◌, GivesRow}
use Rattle.file_joins.specs.Join.{all_of}

-- these, and after them what is still joined
abbrev pub prepended : {B E : Type 0} → List B → Result (List B) E → Result (List B) E
prepended before (Ok ys) = Ok (before ++ ys)
prepended before (Err e) = Err e

pub one_more : {B E : Type 0} (before : List B) (y : B) (rest : Result (List B) E) → prepended (before ++ y ∷ []) rest ≡ prepended before (rest >>= λ ys. Ok (y ∷ ys))
one_more before y (Ok ys) = ap Ok (append_assoc before (y ∷ []) ys)
one_more before y (Err e) = refl

pub nothing_before : {B E : Type 0} (rest : Result (List B) E) → prepended [] rest ≡ rest
nothing_before (Ok ys) = refl
nothing_before (Err e) = refl

-- what is left begins with the next one
pub rest_at : {A : Type 0} (xs : List A) (k : ℕ) (x : A) → k < length xs → x ≡ get_or xs k x → drop k xs ≡ x ∷ drop (k + 1) xs
rest_at xs k x below is =
    let next : suc k ≡ k + 1 = omega arith in
    drop-cons xs k x below ∙ (λ i. sym is i ∷ drop (next i) xs)

-- the parts of a list that is read one by one
pub parts_read : {B E : Type 0} (first : Result B E) (rest : Result (List B) E) (ys : List B) → (first >>= λ z. rest >>= λ zs. Ok (z ∷ zs)) ≡ Ok ys
    → (z : B) × (zs : List B) × (first ≡ Ok z) × (rest ≡ Ok zs) × (z ∷ zs ≡ ys)
parts_read (Err e) rest ys h = absurd cc
parts_read (Ok z) (Err e) ys h = absurd cc
parts_read (Ok z) (Ok zs) ys h = (z, zs, refl, refl, cc)

module _ {A B E : Type 0} (f : A → Result B E) (xs : List A) where
  -- nothing is joined yet
  pub begins : prepended [] (all_of f xs) ≡ all_of f xs
  begins = nothing_before (all_of f xs)

  from_here : (before : List B) (k : ℕ) (x : A) (total : Result (List B) E) → k < length xs → x ≡ get_or xs k x → prepended before (all_of f (drop k xs)) ≡ total
      → prepended before (f x >>= λ y. all_of f (drop (k + 1) xs) >>= λ ys. Ok (y ∷ ys)) ≡ total
  unfolding all_of
  from_here before k x total below is so_far = sym (ap (λ (rest : List A). prepended before (all_of f rest)) (rest_at xs k x below is)) ∙ so_far

  -- one gives something
  pub goes_on : (before : List B) (k : ℕ) (x : A) (y : B) (total : Result (List B) E) → k < length xs → x ≡ get_or xs k x → f x ≡ Ok y → prepended before (all_of f (drop k xs)) ≡ total
      → prepended (before ++ y ∷ []) (all_of f (drop (k + 1) xs)) ≡ total
  goes_on before k x y total below is gives so_far =
      one_more before y (all_of f (drop (k + 1) xs))
      ∙ ap (λ (r : Result B E). prepended before (r >>= λ z. all_of f (drop (k + 1) xs) >>= λ ys. Ok (z ∷ ys))) (sym gives)
      ∙ from_here before k x total below is so_far

  -- one is refused
  pub refused : (before : List B) (k : ℕ) (x : A) (e : E) (total : Result (List B) E) → k < length xs → x ≡ get_or xs k x → f x ≡ Err e → prepended before (all_of f (drop k xs)) ≡ total → total ≡ Err e
  refused before k x e total below is gives so_far =
      sym (from_here before k x total below is so_far)
      ∙ ap (λ (r : Result B E). prepended before (r >>= λ z. all_of f (drop (k + 1) xs) >>= λ ys. Ok (z ∷ ys))) gives

  -- all are joined
  pub ends : (before : List B) (k : ℕ) (total : Result (List B) E) → length xs ≤ k → prepended before (all_of f (drop k xs)) ≡ total → total ≡ Ok before
  unfolding all_of
  ends before k total over so_far =
      sym so_far ∙ ap (λ (rest : List A). prepended before (all_of f rest)) (drop_of_length-le xs {i = k} over) ∙ ap Ok (append-nil before)

-- ---- faults

-- an answer that is a fault
pub reported_fault : {X : Type 0} (result : Result X RowFault) (fault : RowFault) (join : Result X Cause) → IsErrAnd result (λ e. e ≡ fault) → GivesRow {Row = X} (Err fault) join → GivesRow result join
reported_fault (Ok x) fault join is h = absurd is
reported_fault (Err e) fault join is h = subst (λ (f : RowFault). GivesRow (Err f) join) (sym is) h

module _ {A B : Type 0} (f : A → Result B Cause) (xs : List A) (before : List B) (k : ℕ) (x : A) (total : Result (List B) Cause) where
  -- one is not joined
  pub stops : (fault : RowFault) → k < length xs → x ≡ get_or xs k x → GivesRow {Row = B} (Err fault) (f x) → prepended before (all_of f (drop k xs)) ≡ total → GivesRow {Row = List B} (Err fault) total
  stops (row_fault.Refused why) below is gives so_far = refused f xs before k x why total below is gives so_far
  stops row_fault.Memory below is gives so_far = tt

-- ---- what holds of all that is joined

module _ {A B E : Type 0} (f : A → Result B E) where
  parts : (x : A) (xs : List A) (ys : List B) → all_of f (x ∷ xs) ≡ Ok ys → (z : B) × (zs : List B) × (f x ≡ Ok z) × (all_of f xs ≡ Ok zs) × (z ∷ zs ≡ ys)
  unfolding all_of
  parts x xs ys h = parts_read (f x) (all_of f xs) ys h

  none : (ys : List B) → all_of f [] ≡ Ok ys → [] ≡ ys
  unfolding all_of
  none ys h = cc

  -- what follows for one follows for all
  pub all_of-All : (P : A → Type 0) (Q : B → Type 0) → ((x : A) (y : B) → P x → f x ≡ Ok y → Q y) → (xs : List A) (ys : List B) → AllByRecursion P xs → all_of f xs ≡ Ok ys → AllByRecursion Q ys
  all_of-All P Q one [] ys p h = subst (AllByRecursion Q) (none ys h) tt
  all_of-All P Q one (x ∷ xs) ys p h =
      let at = parts x xs ys h in
      subst (AllByRecursion Q) at.4 (one x at.0 p.0 at.2, all_of-All P Q one xs at.1 p.1 at.3)

  -- as many are joined as there are
  pub all_of-length : (xs : List A) (ys : List B) → all_of f xs ≡ Ok ys → length ys ≡ length xs
  all_of-length [] ys h = ap length (sym (none ys h))
  all_of-length (x ∷ xs) ys h =
      let at = parts x xs ys h in
      ap length (sym at.4) ∙ ap suc (all_of-length xs at.1 at.3)

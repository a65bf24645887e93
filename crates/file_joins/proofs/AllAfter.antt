-- Lists that are joined one by one, each after those before it, and what holds of all that is joined.
use Rattle.std.proofs.Common.{◌≡◌, ℕ, ◌+◌, ◌<◌, ◌≤◌, List, [], ◌∷◌, ◌++◌, length, take, drop, get_or, Result, Ok, Err, sym, ap, subst, ◌∙◌}
use Rattle.std.specs.List.{AllByRecursion}
use Rattle.std.proofs.Math.ListN.{drop_of_length-le}
use Rattle.std.proofs.lemmas.List.{append-nil, take_more}
use Rattle.desk_text.specs.Rows.{◌>>=◌}
use Rattle.file_joins.specs.Join.{all_after}
use Rattle.file_joins.proofs.AllOf.{prepended, one_more, nothing_before, rest_at, parts_read}

module _ {A B E : Type 0} (f : List A → A → Result B E) (xs : List A) where
  -- nothing is joined yet
  pub begins : prepended [] (all_after f [] xs) ≡ all_after f [] xs
  begins = nothing_before (all_after f [] xs)

  before_next : (k : ℕ) (x : A) → k < length xs → x ≡ get_or xs k x → take (k + 1) xs ≡ take k xs ++ x ∷ []
  before_next k x below is = take_more xs k x below ∙ ap (λ (y : A). take k xs ++ y ∷ []) (sym is)

  from_here : (before : List B) (k : ℕ) (x : A) (total : Result (List B) E) → k < length xs → x ≡ get_or xs k x → prepended before (all_after f (take k xs) (drop k xs)) ≡ total
      → prepended before (f (take k xs) x >>= λ y. all_after f (take (k + 1) xs) (drop (k + 1) xs) >>= λ ys. Ok (y ∷ ys)) ≡ total
  unfolding all_after
  from_here before k x total below is so_far =
      ap (λ (front : List A). prepended before (f (take k xs) x >>= λ y. all_after f front (drop (k + 1) xs) >>= λ ys. Ok (y ∷ ys))) (before_next k x below is)
      ∙ sym (ap (λ (rest : List A). prepended before (all_after f (take k xs) rest)) (rest_at xs k x below is)) ∙ so_far

  -- one gives something
  pub goes_on : (before : List B) (k : ℕ) (x : A) (y : B) (total : Result (List B) E) → k < length xs → x ≡ get_or xs k x → f (take k xs) x ≡ Ok y
      → prepended before (all_after f (take k xs) (drop k xs)) ≡ total → prepended (before ++ y ∷ []) (all_after f (take (k + 1) xs) (drop (k + 1) xs)) ≡ total
  goes_on before k x y total below is gives so_far =
      one_more before y (all_after f (take (k + 1) xs) (drop (k + 1) xs))
      ∙ ap (λ (r : Result B E). prepended before (r >>= λ z. all_after f (take (k + 1) xs) (drop (k + 1) xs) >>= λ ys. Ok (z ∷ ys))) (sym gives)
      ∙ from_here before k x total below is so_far

  -- one is refused
  pub refused : (before : List B) (k : ℕ) (x : A) (e : E) (total : Result (List B) E) → k < length xs → x ≡ get_or xs k x → f (take k xs) x ≡ Err e
      → prepended before (all_after f (take k xs) (drop k xs)) ≡ total → total ≡ Err e
  refused before k x e total below is gives so_far =
      sym (from_here before k x total below is so_far)
      ∙ ap (λ (r : Result B E). prepended before (r >>= λ z. all_after f (take (k + 1) xs) (drop (k + 1) xs) >>= λ ys. Ok (z ∷ ys))) gives

  -- all are joined
  pub ends : (before : List B) (k : ℕ) (total : Result (List B) E) → length xs ≤ k → prepended before (all_after f (take k xs) (drop k xs)) ≡ total → total ≡ Ok before
  unfolding all_after
  ends before k total over so_far =
      sym so_far ∙ ap (λ (rest : List A). prepended before (all_after f (take k xs) rest)) (drop_of_length-le xs {i = k} over) ∙ ap Ok (append-nil before)

-- ---- what holds of all that is joined

module _ {A B E : Type 0} (f : List A → A → Result B E) where
  parts : (before : List A) (x : A) (xs : List A) (ys : List B) → all_after f before (x ∷ xs) ≡ Ok ys
      → (z : B) × (zs : List B) × (f before x ≡ Ok z) × (all_after f (before ++ x ∷ []) xs ≡ Ok zs) × (z ∷ zs ≡ ys)
  unfolding all_after
  parts before x xs ys h = parts_read (f before x) (all_after f (before ++ x ∷ []) xs) ys h

  none : (before : List A) (ys : List B) → all_after f before [] ≡ Ok ys → [] ≡ ys
  unfolding all_after
  none before ys h = cc

  -- what follows for one follows for all
  pub all_after-All : (P : A → Type 0) (Q : B → Type 0) → ((before : List A) (x : A) (y : B) → P x → f before x ≡ Ok y → Q y)
      → (before xs : List A) (ys : List B) → AllByRecursion P xs → all_after f before xs ≡ Ok ys → AllByRecursion Q ys
  all_after-All P Q one before [] ys p h = subst (AllByRecursion Q) (none before ys h) tt
  all_after-All P Q one before (x ∷ xs) ys p h =
      let at = parts before x xs ys h in
      subst (AllByRecursion Q) at.4 (one before x at.0 p.0 at.2, all_after-All P Q one (before ++ x ∷ []) xs at.1 p.1 at.3)

-- Lines that say one new thing after another are all read.
use Rattle.std.proofs.Common.{◌≡◌, ℕ, zero, suc, ◌+◌, ◌<◌, ◌≤◌, false, cond, List, [], ◌∷◌, ◌++◌, length, drop, get_or, set, replicate, Some, None, Ok, refl, sym, ap, subst, ◌∙◌, arith}
use Rattle.std.specs.Prelude.{IfOk}
use Rattle.file_rows.specs.declared.cause.Cause.TheVariants.{Twice}
use Rattle.file_joins.specs.Statement.{Statement, Adds, cause_of, entries_stated}
use Rattle.file_joins.proofs.StatementLemmas.{AreAfter, begins, goes_on, ends}

-- an element after others
pub get_after : {X : Type 0} (front : List X) (b : X) (bs : List X) (d : X) → get_or (front ++ b ∷ bs) (length front) d ≡ b
get_after [] b bs d = refl
get_after (a ∷ front) b bs d = get_after front b bs d

pub set_after : {X : Type 0} (front : List X) (b c : X) (bs : List X) → set (front ++ b ∷ bs) (length front) c ≡ front ++ c ∷ bs
set_after [] b c bs = refl
set_after (a ∷ front) b c bs = ap (λ xs. a ∷ xs) (set_after front b c bs)

-- what is left begins with the element at that place
pub first_left : {X : Type 0} (xs : List X) (n : ℕ) (x : X) (rest : List X) (d : X) → drop n xs ≡ x ∷ rest → x ≡ get_or xs n d
first_left [] zero x rest d e = absurd cc
first_left [] (suc n) x rest d e = absurd cc
first_left (y ∷ xs) zero x rest d e = cc
first_left (y ∷ xs) (suc n) x rest d e = first_left xs n x rest d e

pub within_left : {X : Type 0} (xs : List X) (n : ℕ) (x : X) (rest : List X) → drop n xs ≡ x ∷ rest → n < length xs
within_left [] zero x rest e = absurd cc
within_left [] (suc n) x rest e = absurd cc
within_left (y ∷ xs) zero x rest e = omega arith
within_left (y ∷ xs) (suc n) x rest e = let lt = within_left xs n x rest e in omega (arith, lt)

none_left : {X : Type 0} (xs : List X) (n : ℕ) → drop n xs ≡ [] → length xs ≤ n
none_left [] n e = omega arith
none_left (y ∷ xs) zero e = absurd cc
none_left (y ∷ xs) (suc n) e = let le = none_left xs n e in omega (arith, le)

pub left_then : {X : Type 0} (xs : List X) (n : ℕ) (x : X) (rest : List X) → drop n xs ≡ x ∷ rest → drop (n + 1) xs ≡ rest
left_then [] zero x rest e = absurd cc
left_then [] (suc n) x rest e = absurd cc
left_then (y ∷ xs) zero x rest e = cc
left_then (y ∷ xs) (suc n) x rest e =
    let same : suc n + 1 ≡ suc (n + 1) = omega arith in
    ap (λ (k : ℕ). drop k (y ∷ xs)) same ∙ left_then xs n x rest e

module _ {Line Stated Entry : Type 0} (T : Statement Line Stated Entry) (size : ℕ) where
  -- each line says something new, and these are the entries after them
  abbrev pub Runs : List Entry → List Line → List Entry → Type 0
  Runs entries [] end = entries ≡ end
  Runs entries (line ∷ lines) end =
      (stated : Stated) × (T.stated line ≡ Ok stated) × (T.about stated < size) × (T.again stated (get_or entries (T.about stated) T.none) ≡ false)
      × Runs (set entries (T.about stated) (T.add (get_or entries (T.about stated) T.none) stated)) lines end

  pub runs_append : (xs ys : List Line) (first middle last : List Entry) → Runs first xs middle → Runs middle ys last → Runs first (xs ++ ys) last
  runs_append [] ys first middle last one two = subst (λ es. Runs es ys last) (sym one) two
  runs_append (x ∷ xs) ys first middle last one two = (one.0, one.1, one.2, one.3, runs_append xs ys _ middle last one.4 two)

  runs_after : (whole : List Line) (n : ℕ) (rest : List Line) (entries end : List Entry) → drop n whole ≡ rest → AreAfter T size whole n entries → Runs entries rest end → entries_stated T size whole ≡ Ok end
  runs_after whole n [] entries end left after runs = ends T size whole n entries (none_left whole n left) after ∙ ap Ok runs
  runs_after whole n (line ∷ rest) entries end left after runs =
      let stated = runs.0 in
      let says = runs.1 in
      let next : List Entry = set entries (T.about stated) (T.add (get_or entries (T.about stated) T.none) stated) in
      let no_cause : None ≡ cause_of (λ stated. T.again stated (get_or entries (T.about stated) T.none)) (T.stated line) =
      sym (ap (cause_of (λ stated. T.again stated (get_or entries (T.about stated) T.none))) says ∙ ap (λ t. cond t (Some Twice) None) runs.3) in
      runs_after whole (n + 1) rest next end (left_then whole n line rest left)
      (goes_on T size whole n entries next line None (within_left whole n line rest left) (first_left whole n line rest line left)
      (subst (λ r. IfOk r (λ stated. T.about stated < size)) (sym says) runs.2)
      no_cause refl
      (subst (λ r. Adds T r entries next) (sym says) refl) after)
      runs.4

  -- so they are read
  pub runs_back : (lines : List Line) (end : List Entry) → Runs (replicate size T.none) lines end → entries_stated T size lines ≡ Ok end
  runs_back lines end runs = runs_after lines 0 lines (replicate size T.none) end refl (begins T size lines (replicate size T.none) refl) runs

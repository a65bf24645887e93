-- What holds where no row is refused: each row has no cause, so there are few, and no two are alike.
use Rattle.std.proofs.Common.{◌≡◌, ℕ, zero, suc, ◌+◌, ◌<◌, ◌≤◌, Bool, true, false, cond, List, [], ◌∷◌, length, take, get_or, leb, Option, Some, None, refl, ap, subst, ◌∙◌, arith, AllPairs, inl, inr}
use Rattle.std.specs.List.{list_any}
use Rattle.std.specs.Option.{option_map_or, option_or}
use Rattle.std.proofs.lemmas.Bool.{cases_lt, leb-false, false_from_ne_true, both_ways}
use Rattle.std.proofs.lemmas.List.{get_or-take, length-take}
use Rattle.std.proofs.lemmas.List.Folds.{list_any_at}
use Rattle.desk_folder.specs.declared.files.File.{File}
use Rattle.file_rows.specs.declared.cause.Cause.{Cause}
use Rattle.build_refusals.specs.First.{refusal_from, first_refusal_in}
use Rattle.build_refusals.specs.Refusals.{in_file}

-- neither of two gives anything
pub neither : {A : Type 0} (a b : Option A) → option_or a b ≡ None → (a ≡ None) × (b ≡ None)
neither None b e = (refl, e)
neither (Some x) b e = absurd cc

-- nothing is refused in a file
pub not_in_file : (f : File) (refused : Option (ℕ × Cause)) → in_file f refused ≡ None → refused ≡ None
not_in_file f None e = refl
not_in_file f (Some r) e = absurd cc

-- a test that leads to a cause fails, and what comes after it gives none
pub passed : {A : Type 0} (b : Bool) (why : A) (rest : Option A) → cond b (Some why) rest ≡ None → (b ≡ false) × (rest ≡ None)
passed true why rest e = absurd cc
passed false why rest e = (refl, e)

-- a test without which there is a cause holds
pub held : {A : Type 0} (b : Bool) (why : A) → cond b None (Some why) ≡ None → b ≡ true
held true why e = refl
held false why e = absurd cc

not_refused : (line : ℕ) (o : Option Cause) (rest : Option (ℕ × Cause)) → option_map_or (λ why. Some (line, why)) o rest ≡ None → (o ≡ None) × (rest ≡ None)
not_refused line None rest e = (refl, e)
not_refused line (Some why) rest e = absurd cc

module _ {Row : Type 0} (cause : ℕ → Row → Option Cause) (line : ℕ → Row → ℕ) where
  none_from : (n : ℕ) (rows : List Row) → refusal_from cause line n rows ≡ None → (k : ℕ) (d : Row) → k < length rows → cause (n + k) (get_or rows k d) ≡ None
  unfolding refusal_from
  none_from n [] e k d below = absurd (omega arith)
  none_from n (row ∷ rows) e zero d below = let same : n ≡ n + 0 = omega arith in subst (λ (m : ℕ). cause m row ≡ None) same (not_refused (line n row) (cause n row) (refusal_from cause line (n + 1) rows) e).0
  none_from n (row ∷ rows) e (suc k) d below =
      let same : (n + 1) + k ≡ n + suc k = omega arith in
      let inside : k < length rows = omega arith in
      subst (λ (m : ℕ). cause m (get_or rows k d) ≡ None) same (none_from (n + 1) rows (not_refused (line n row) (cause n row) (refusal_from cause line (n + 1) rows) e).1 k d inside)

  -- no row has a cause at its place
  pub none_refused_at : (rows : List Row) → refusal_from cause line 0 rows ≡ None → (k : ℕ) (d : Row) → k < length rows → cause k (get_or rows k d) ≡ None
  none_refused_at rows e k d below = let same : 0 + k ≡ k = omega arith in subst (λ (m : ℕ). cause m (get_or rows k d) ≡ None) same (none_from 0 rows e k d below)

pub none_refused : {Row : Type 0} (cause : ℕ → Row → Option Cause) (line : Row → ℕ) (rows : List Row) → first_refusal_in cause line rows ≡ None → (k : ℕ) (d : Row) → k < length rows → cause k (get_or rows k d) ≡ None
none_refused cause line rows e k d below = none_refused_at cause (λ n row. line row) rows e k d below

-- there are no more rows than the limit where each place is below it
few_by : (limit count : ℕ) → ((k : ℕ) → k < count → leb limit k ≡ false) → (limit < count) → ⊥
few_by limit count each over = let below : limit < limit = leb-false limit limit (each limit over) in omega arith

pub few_rows : {Row : Type 0} (limit : ℕ) (rows : List Row) → ((k : ℕ) (d : Row) → k < length rows → leb limit k ≡ false) → length rows ≤ limit
few_rows limit [] each = omega arith
few_rows limit (row ∷ rows) each = elim (cases_lt limit (length (row ∷ rows))) [
  | inl over ↦ absurd (few_by limit (length (row ∷ rows)) (λ k below. each k row below) over)
  | inr few ↦ few
]

-- no row is like one before it
pub none_alike : {Row : Type 0} (alike : Row → Row → Bool) (rows : List Row) → ((k : ℕ) (d : Row) → k < length rows → list_any (alike (get_or rows k d)) (take k rows) ≡ false) → AllPairs (λ a b. alike b a ≡ false) rows
none_alike alike rows each i j d before within =
    let inside : i < length (take j rows) = omega (arith, length-take j rows) in
    let same : get_or (take j rows) i d ≡ get_or rows i d = get_or-take j rows i d before in
    false_from_ne_true (alike (get_or rows j d) (get_or rows i d)) (λ e. both_ways (list_any (alike (get_or rows j d)) (take j rows)) (each j d within) (list_any_at (alike (get_or rows j d)) (take j rows) i d inside (ap (alike (get_or rows j d)) same ∙ e)))

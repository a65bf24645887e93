-- Rows that are named by some bytes and a number, and a set of the names seen so far.
use Rattle.std.proofs.Common.{◌≡◌, ◌≢◌, ℕ, ◌+◌, ◌<◌, Bool, true, false, cond, ◌&&◌, ◌||◌, eqb, List, length, take, get_or, refl, sym, ap, ◌∙◌, arith}
use Rattle.std.specs.List.{AllPairs, list_any}
use Rattle.std.specs.Str.{bytes_eq}
use Rattle.std.proofs.lemmas.Bool.{eq-eqb}
use Rattle.std.proofs.lemmas.Grind.{common_steps}
use Rattle.std.proofs.lemmas.List.{take_more, length-take, get_or-take, get_or_read}
use Rattle.std.proofs.lemmas.List.Folds.{list_any-append, list_any_at, Any-from_list_any}
use Rattle.std.proofs.lemmas.List.Quantifiers.{all_pairs_push}
use Rattle.std.proofs.lemmas.Slice.Eq.{bytes_eq-Decides}

-- whether two names are the same
abbrev pub same_key : List ℕ × ℕ → List ℕ × ℕ → Bool
same_key a b = bytes_eq a.0 b.0 && eqb a.1 b.1

both : (a b : Bool) → (a && b) ≡ true → (a ≡ true) × (b ≡ true)
both true true h = (refl, refl)
both true false h = (refl, h)
both false b h = (h, cc)

key_from_same : (a b : List ℕ × ℕ) → same_key a b ≡ true → a ≡ b
key_from_same a b h =
    let parts = both (bytes_eq a.0 b.0) (eqb a.1 b.1) h in
    let number : a.1 ≡ b.1 = grind (arith, common_steps, parts.1) in
    ap (λ (bytes : List ℕ). let k : List ℕ × ℕ = (bytes, a.1) in k) ((bytes_eq-Decides a.0 b.0).0 parts.0)
    ∙ ap (λ (n : ℕ). let k : List ℕ × ℕ = (b.0, n) in k) number

same_from_key : (a b : List ℕ × ℕ) → a ≡ b → same_key a b ≡ true
same_from_key a b e =
    let bytes : bytes_eq a.0 b.0 ≡ true = (bytes_eq-Decides a.0 b.0).1 (ap (λ (k : List ℕ × ℕ). k.0) e) in
    let number : eqb a.1 b.1 ≡ true = eq-eqb a.1 b.1 (ap (λ (k : List ℕ × ℕ). k.1) e) in
    rw (bytes, number)

contradiction : {b : Bool} → b ≡ false → b ≡ true → ⊥
contradiction absent present = cc

-- the names seen so far, after one more row
cond-or : (a b : Bool) → cond b true a ≡ (a || (b || false))
cond-or true true = refl
cond-or true false = refl
cond-or false true = refl
cond-or false false = refl

module _ {X : Type 0} (key : X → List ℕ × ℕ) where
  pub seen_more : (q : List ℕ × ℕ) (xs : List X) (i : ℕ) (x : X) → i < length xs → x ≡ get_or xs i x → cond (same_key (key x) q) true (list_any (λ y. same_key (key y) q) (take i xs)) ≡ list_any (λ y. same_key (key y) q) (take (i + 1) xs)
  seen_more q xs i x below is =
      rw (take_more xs i x below, ← is, list_any-append) (cond-or _ _)

  -- a row whose name was not seen is named apart from those before it
  pub apart_more : (xs : List X) (i : ℕ) (x : X) → i < length xs → x ≡ get_or xs i x → list_any (λ y. same_key (key y) (key x)) (take i xs) ≡ false → AllPairs (λ a b. key a ≢ key b) (take i xs) → AllPairs (λ a b. key a ≢ key b) (take (i + 1) xs)
  apart_more xs i x below is unseen apart =
      rw (take_more xs i x below, ← is) (all_pairs_push (λ a b. key a ≢ key b) (take i xs) x apart (λ k d within same. contradiction unseen (list_any_at (λ y. same_key (key y) (key x)) (take i xs) k d within (same_from_key _ _ same))))

  not_apart_at : (xs : List X) (i : ℕ) (x : X) → i < length xs → x ≡ get_or xs i x → (k : ℕ) (y : X) → k < i → get_or (take i xs) k y ≡ y → key y ≡ key x → AllPairs (λ a b. key a ≢ key b) xs → ⊥
  not_apart_at xs i x below is k y before there same apart =
      apart k i y before below (ap key (sym (get_or-take i xs k y before) ∙ there) ∙ same ∙ ap key (get_or_read xs i x below is y))

  -- a row whose name was seen is not
  pub not_apart : (xs : List X) (i : ℕ) (x : X) → i < length xs → x ≡ get_or xs i x → list_any (λ y. same_key (key y) (key x)) (take i xs) ≡ true → AllPairs (λ a b. key a ≢ key b) xs → ⊥
  not_apart xs i x below is seen apart =
      let found = Any-from_list_any (λ y. same_key (key y) (key x)) (take i xs) seen in
      not_apart_at xs i x below is found.0 found.1 (omega (arith, found.2, length-take {A = X})) found.3 (key_from_same _ _ found.4) apart

-- Ascending lists of places_from.
use Rattle.std.proofs.Common.{◌≡◌, ◌≢◌, ℕ, ◌<◌, ◌≤◌, ◌==◌, Bool, true, false, true≢false, List, [], ◌∷◌, ◌++◌, length, set, refl, sym, ⊎_elim, ◌⊎◌, inl, inr, arith, eq-eqb, cond, nat_lt}
use Rattle.std.proofs.lemmas.Bool.Decides.{nat_tests}
use Rattle.turn_book.specs.Places.{has, Ascends, insert, merge}
use Rattle.turn_book.proofs.Bools.{or_left, or_right, or_cases}

pub has_snoc : (k : ℕ) (xs : List ℕ) (x : ℕ) → has k (xs ++ x ∷ []) ≡ true → (has k xs ≡ true) ⊎ (k ≡ x)
has_snoc k [] x h = grind (arith, nat_tests)
has_snoc k (y ∷ ys) x h = grind (arith, nat_tests, has_snoc k ys x)

pub has_last : (k : ℕ) (xs : List ℕ) (x : ℕ) → k ≡ x → has k (xs ++ x ∷ []) ≡ true
has_last k [] x e = grind (arith, nat_tests)
has_last k (y ∷ ys) x e = grind (arith, nat_tests, has_last k ys x e)

pub has_front : (k : ℕ) (xs : List ℕ) (x : ℕ) → has k xs ≡ true → has k (xs ++ x ∷ []) ≡ true
has_front k [] x h = absurd (true≢false (sym h))
has_front k (y ∷ ys) x h = grind (arith, nat_tests, has_front k ys x)

pub ascends_snoc : (xs : List ℕ) (x : ℕ) → ((k : ℕ) → has k xs ≡ true → k < x) → Ascends xs → Ascends (xs ++ x ∷ [])
ascends_snoc [] x below a = ((λ j h. absurd (true≢false (sym h))), tt)
ascends_snoc (y ∷ ys) x below a = (
  λ j h. ⊎_elim (λ (q : has j ys ≡ true). a.0 j q) (λ (q : j ≡ x). let lt : y < x = below y (grind (arith, nat_tests)) in omega arith) (has_snoc j ys x h),
  ascends_snoc ys x (λ k h. below k (grind (arith, nat_tests))) a.1,
)

pub set_only : {A : Type 0} (l : List A) (a : A) → length l ≡ 1 → set l 0 a ≡ a ∷ []
set_only [] a e = absurd (omega arith)
set_only (x ∷ []) a e = refl
set_only (x ∷ y ∷ ys) a e = absurd (omega arith)

pub has_insert : (j k : ℕ) (xs : List ℕ) → has j (insert k xs) ≡ true → (j ≡ k) ⊎ (has j xs ≡ true)
has_insert j k [] h = inl (grind (arith, nat_tests))
has_insert j k (x ∷ xs) h = has_insert_at j k x xs (has_insert j k xs) (nat_lt k x) h
  where
    has_insert_at : (j k x : ℕ) (xs : List ℕ) → (has j (insert k xs) ≡ true → (j ≡ k) ⊎ (has j xs ≡ true)) → (b : Bool) → has j (cond b (k ∷ x ∷ xs) (x ∷ insert k xs)) ≡ true → (j ≡ k) ⊎ (has j (x ∷ xs) ≡ true)
    has_insert_at j k x xs ih true h = ⊎_elim (λ (e : (j == k) ≡ true). inl (grind (arith, nat_tests))) (λ (e : has j (x ∷ xs) ≡ true). inr e) (or_cases (j == k) _ h)
    has_insert_at j k x xs ih false h = ⊎_elim (λ (e : (j == x) ≡ true). inr (or_left (j == x) _ e)) (λ (e : has j (insert k xs) ≡ true). ⊎_elim (λ (a : j ≡ k). inl a) (λ (a : has j xs ≡ true). inr (or_right (j == x) _ a)) (ih e)) (or_cases (j == x) _ h)

pub insert_has : (j k : ℕ) (xs : List ℕ) → (j ≡ k) ⊎ (has j xs ≡ true) → has j (insert k xs) ≡ true
insert_has j k [] h = ⊎_elim (λ (e : j ≡ k). or_left _ _ (eq-eqb j k e)) (λ (e : false ≡ true). absurd (true≢false (sym e))) h
insert_has j k (x ∷ xs) h = insert_has_at j k x xs h (insert_has j k xs) (nat_lt k x)
  where
    insert_has_at : (j k x : ℕ) (xs : List ℕ) → (j ≡ k) ⊎ (has j (x ∷ xs) ≡ true) → ((j ≡ k) ⊎ (has j xs ≡ true) → has j (insert k xs) ≡ true) → (b : Bool) → has j (cond b (k ∷ x ∷ xs) (x ∷ insert k xs)) ≡ true
    insert_has_at j k x xs h ih true = ⊎_elim (λ (e : j ≡ k). or_left _ _ (eq-eqb j k e)) (λ (e : has j (x ∷ xs) ≡ true). or_right (j == k) _ e) h
    insert_has_at j k x xs h ih false = ⊎_elim (λ (e : j ≡ k). or_right (j == x) _ (ih (inl e))) (λ (e : has j (x ∷ xs) ≡ true). ⊎_elim (λ (a : (j == x) ≡ true). or_left _ _ a) (λ (a : has j xs ≡ true). or_right (j == x) _ (ih (inr a))) (or_cases (j == x) _ e)) h

pub has_merge : (j : ℕ) (xs ys : List ℕ) → has j (merge xs ys) ≡ true → (has j xs ≡ true) ⊎ (has j ys ≡ true)
has_merge j [] ys h = inr h
has_merge j (x ∷ xs) ys h = ⊎_elim (λ (e : j ≡ x). inl (or_left _ _ (eq-eqb j x e))) (λ (e : has j (merge xs ys) ≡ true). ⊎_elim (λ (a : has j xs ≡ true). inl (or_right (j == x) _ a)) (λ (a : has j ys ≡ true). inr a) (has_merge j xs ys e)) (has_insert j x (merge xs ys) h)

pub merge_has : (j : ℕ) (xs ys : List ℕ) → (has j xs ≡ true) ⊎ (has j ys ≡ true) → has j (merge xs ys) ≡ true
merge_has j [] ys h = ⊎_elim (λ (e : false ≡ true). absurd (true≢false (sym e))) (λ (e : has j ys ≡ true). e) h
merge_has j (x ∷ xs) ys h = insert_has j x (merge xs ys)
    (⊎_elim (λ (e : has j (x ∷ xs) ≡ true). ⊎_elim (λ (a : (j == x) ≡ true). inl (grind (arith, nat_tests))) (λ (a : has j xs ≡ true). inr (merge_has j xs ys (inl a))) (or_cases (j == x) _ e)) (λ (e : has j ys ≡ true). inr (merge_has j xs ys (inr e))) h)

ascends_insert : (k : ℕ) (xs : List ℕ) → (has k xs ≡ true → ⊥) → Ascends xs → Ascends (insert k xs)
ascends_insert k [] out a = ((λ j h. absurd (true≢false (sym h))), tt)
ascends_insert k (x ∷ xs) out a = ascends_insert_at k x xs out a (ascends_insert k xs (λ h. out (or_right (k == x) _ h)) a.1) (nat_lt k x) refl
  where
    ascends_insert_at : (k x : ℕ) (xs : List ℕ) → (has k (x ∷ xs) ≡ true → ⊥) → Ascends (x ∷ xs) → Ascends (insert k xs) → (b : Bool) → nat_lt k x ≡ b → Ascends (cond b (k ∷ x ∷ xs) (x ∷ insert k xs))
    ascends_insert_at k x xs out a ih true is =
        let lt : k < x = grind (arith, nat_tests) in
        ((λ j h. ⊎_elim (λ (e : (j == x) ≡ true). let same : j ≡ x = grind (arith, nat_tests) in omega arith) (λ (e : has j xs ≡ true). let more : x < j = a.0 j e in omega arith) (or_cases (j == x) _ h)), a)
    ascends_insert_at k x xs out a ih false is =
        let le : x ≤ k = grind (arith, nat_tests) in
        let ne : k ≢ x = λ e. out (or_left _ _ (eq-eqb k x e)) in
        ((λ j h. ⊎_elim (λ (e : j ≡ k). omega arith) (λ (e : has j xs ≡ true). a.0 j e) (has_insert j k xs h)), ih)

pub ascends_merge : (xs ys : List ℕ) → Ascends xs → Ascends ys → ((k : ℕ) → has k xs ≡ true → has k ys ≡ true → ⊥) → Ascends (merge xs ys)
ascends_merge [] ys a b apart = b
ascends_merge (x ∷ xs) ys a b apart = ascends_insert x (merge xs ys)
    (λ h. ⊎_elim (λ (e : has x xs ≡ true). let lt : x < x = a.0 x e in omega arith) (λ (e : has x ys ≡ true). apart x (or_left _ _ (eq-eqb x x refl)) e) (has_merge x xs ys h))
    (ascends_merge xs ys a.1 b (λ k h. apart k (or_right (k == x) _ h)))

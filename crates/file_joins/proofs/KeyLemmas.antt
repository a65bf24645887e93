-- Keys are kept in the order of their rows, each as it is seen.
use Rattle.std.proofs.Common.{◌≡◌, ◌≢◌, ℕ, suc, ◌+◌, ◌<◌, Bool, true, false, cond, ◌||◌, not, eqb, ltb, List, [], ◌∷◌, ◌++◌, length, take, get_or, map, bytes_eq, Some, None, refl, sym, ap, ◌∙◌, arith, AllPairs}
use Rattle.std.specs.List.{list_any, position, position_or_len}
use Rattle.std.proofs.lemmas.Bool.{false_from_ne_true, and_parts, eqb-true, false≢true}
use Rattle.std.proofs.lemmas.List.{take_more, length-take, length-map, get_or-take, get_or-map, map-append}
use Rattle.std.proofs.lemmas.Slice.Eq.{bytes_eq-Decides}
use Rattle.file_joins.specs.contracts.places.KeyPartialEq.TheImpl.{eq-value}
use Rattle.file_joins.specs.declared.places.Key.{Key as Borrowed}
use Rattle.file_joins.specs.declared.places.Key.TheVariants as borrowed
use Rattle.file_joins.specs.Keys.{Key, named, on_day, booked, same_direction, is_key, key_in, with_key}

-- what a test finds, it finds of what the elements are seen as
any_map : {A B : Type 0} (seen : A → B) (test : B → Bool) (xs : List A) → list_any (λ x. test (seen x)) xs ≡ list_any test (map seen xs)
any_map seen test [] = refl
any_map seen test (x ∷ xs) = ap (λ b. test (seen x) || b) (any_map seen test xs)

position_or_len-map : {A B : Type 0} (seen : A → B) (test : B → Bool) (xs : List A) → position_or_len (λ x. test (seen x)) xs ≡ position_or_len test (map seen xs)
position_or_len-map seen test [] = refl
position_or_len-map seen test (x ∷ xs) = ap (λ n. cond (not (test (seen x))) (1 + n) 0) (position_or_len-map seen test xs)

-- and at the same place
pub position-map : {A B : Type 0} (seen : A → B) (test : B → Bool) (xs : List A) → position (λ x. test (seen x)) xs ≡ position test (map seen xs)
position-map seen test xs =
    ap (λ n. cond (ltb n (length xs)) (Some n) None) (position_or_len-map seen test xs)
    ∙ ap (λ n. cond (ltb (position_or_len test (map seen xs)) n) (Some (position_or_len test (map seen xs))) None) (sym (length-map xs seen))

-- two keys are the same as borrowed where they are
same_seen : (a b : Borrowed) → eq-value.it a b ≡ is_key (key_in a) (key_in b)
same_seen (borrowed.Named a) (borrowed.Named b) = refl
same_seen (borrowed.Named a) (borrowed.OnDay b m) = refl
same_seen (borrowed.Named a) (borrowed.Booked b m) = refl
same_seen (borrowed.OnDay a n) (borrowed.Named b) = refl
same_seen (borrowed.OnDay a n) (borrowed.OnDay b m) = refl
same_seen (borrowed.OnDay a n) (borrowed.Booked b m) = refl
same_seen (borrowed.Booked a n) (borrowed.Named b) = refl
same_seen (borrowed.Booked a n) (borrowed.OnDay b m) = refl
same_seen (borrowed.Booked a true) (borrowed.Booked b true) = refl
same_seen (borrowed.Booked a true) (borrowed.Booked b false) = refl
same_seen (borrowed.Booked a false) (borrowed.Booked b true) = refl
same_seen (borrowed.Booked a false) (borrowed.Booked b false) = refl

pub tests_seen : (k : Borrowed) → eq-value.it k ≡ (λ x. is_key (key_in k) (key_in x))
tests_seen k = λ i x. same_seen k x i

pub position_seen : (k : Borrowed) (keys : List Borrowed) → position (eq-value.it k) keys ≡ position (is_key (key_in k)) (map key_in keys)
position_seen k keys = ap (λ (t : Borrowed → Bool). position t keys) (tests_seen k) ∙ position-map key_in (is_key (key_in k)) keys

-- the keys, with one more where it is new
seen_by : {A B : Type 0} (seen : A → B) (b : Bool) (xs : List A) (x : A) → map seen (cond b xs (xs ++ x ∷ [])) ≡ cond b (map seen xs) (map seen xs ++ seen x ∷ [])
seen_by seen true xs x = refl
seen_by seen false xs x = map-append seen xs (x ∷ [])

pub seen_with : (keys : List Borrowed) (k : Borrowed) → map key_in (cond (list_any (eq-value.it k) keys) keys (keys ++ k ∷ [])) ≡ with_key (map key_in keys) (key_in k)
seen_with keys k =
    seen_by key_in (list_any (eq-value.it k) keys) keys k
    ∙ ap (λ b. cond b (map key_in keys) (map key_in keys ++ key_in k ∷ [])) (ap (λ (t : Borrowed → Bool). list_any t keys) (tests_seen k) ∙ any_map key_in (is_key (key_in k)) keys)

-- a key that passes is the same
way : (a b : Bool) → same_direction a b ≡ true → a ≡ b
way true true h = refl
way false false h = refl
way true false h = absurd (false≢true h)
way false true h = absurd (false≢true h)

same_key : (a b : Key) → is_key a b ≡ true → a ≡ b
same_key (named a) (named b) h = ap named ((bytes_eq-Decides a b).0 h)
same_key (on_day a n) (on_day b m) h =
    let parts = and_parts (bytes_eq a b) (eqb n m) h in
    let first = (bytes_eq-Decides a b).0 parts.0 in
    let second = eqb-true n m parts.1 in
    λ i. on_day (first i) (second i)
same_key (booked a n) (booked b m) h =
    let parts = and_parts (bytes_eq a b) (same_direction n m) h in
    let first = (bytes_eq-Decides a b).0 parts.0 in
    let second = way n m parts.1 in
    λ i. booked (first i) (second i)
same_key (named a) (on_day b m) h = absurd (false≢true h)
same_key (named a) (booked b m) h = absurd (false≢true h)
same_key (on_day a n) (named b) h = absurd (false≢true h)
same_key (on_day a n) (booked b m) h = absurd (false≢true h)
same_key (booked a n) (named b) h = absurd (false≢true h)
same_key (booked a n) (on_day b m) h = absurd (false≢true h)

-- a key that differs from each of these is not found among them
none_found : (key : Key) (keys : List Key) → ((k : ℕ) → k < length keys → get_or keys k key ≢ key) → list_any (is_key key) keys ≡ false
none_found key [] differ = refl
none_found key (x ∷ keys) differ =
    let head : is_key key x ≡ false = false_from_ne_true (is_key key x) (λ e. differ 0 (omega arith) (sym (same_key key x e))) in
    let rest : list_any (is_key key) keys ≡ false = none_found key keys (λ k lt. differ (suc k) (omega arith)) in
    ap (λ b. b || list_any (is_key key) keys) head ∙ rest

module _ {Row : Type 0} (key_of : Row → Key) (rows : List Row) (i : ℕ) (row : Row) (below : i < length rows) (is : row ≡ get_or rows i row) (apart : AllPairs (λ a b. key_of a ≢ key_of b) rows) where
  -- a row's key differs from those of the rows before it
  apart_before : (k : ℕ) → k < length (map key_of (take i rows)) → get_or (map key_of (take i rows)) k (key_of row) ≢ key_of row
  apart_before k lt = λ e.
      let within : k < length (take i rows) = omega (arith, length-map (take i rows) key_of) in
      let before : k < i = omega (arith, length-take i rows) in
      apart k i row before below (ap key_of (sym (get_or-take i rows k row before)) ∙ sym (get_or-map key_of (take i rows) k row (key_of row) within) ∙ e ∙ ap key_of is)

  -- so it is the last of the keys then
  pub keyed_more : with_key (map key_of (take i rows)) (key_of row) ≡ map key_of (take (i + 1) rows)
  keyed_more =
      let keys = map key_of (take i rows) in
      ap (λ b. cond b keys (keys ++ key_of row ∷ [])) (none_found (key_of row) keys apart_before)
      ∙ sym (map-append key_of (take i rows) (row ∷ []))
      ∙ ap (map key_of) (ap (λ r. take i rows ++ r ∷ []) is ∙ sym (take_more rows i row below))

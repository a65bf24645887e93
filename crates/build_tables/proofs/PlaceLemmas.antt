-- What stands at the first place that passes a test, and what a table of places keeps.
use Rattle.std.proofs.Common.{◌≡◌, ℕ, zero, suc, ◌+◌, ◌<◌, ◌≤◌, Bool, true, false, cond, inl, inr, not, eqb, ltb, List, [], ◌∷◌, length, drop, take, get_or, bytes_eq, subst, Option, Some, None, refl, sym, ap, ◌∙◌, arith, drop-cons}
use Rattle.std.specs.Prelude.{find, option_map, is_some}
use Rattle.std.specs.List.{position, position_or_len}
use Rattle.std.specs.Map.{lookup}
use Rattle.std.proofs.lemmas.Bool.{ltb-false, lt-ltb, le-ltb, cond-true, cond-false, cases_lt, cases_Bool, and_parts, eqb-true, false≢true}
use Rattle.std.proofs.lemmas.List.Quantifiers.{position-Some}
use Rattle.std.specs.List.{list_any}
use Rattle.std.proofs.lemmas.List.{get_or-take, get_or_default, length-take-le}
use Rattle.std.proofs.lemmas.List.Folds.{list_any_none}
use Rattle.std.proofs.lemmas.List.Kept.{AllPairs-cons}
use Rattle.std.proofs.lemmas.List.Sums.{fails_before_first}
use Rattle.std.proofs.lemmas.Slice.Eq.{bytes_eq-Decides}
use Rattle.indexmap.specs.IndexMap.{insert_entry}
use Rattle.build_tables.specs.contracts.places.KeyPartialEq.TheImpl.{eq-value}
use Rattle.build_tables.specs.declared.places.Key.{Key as Borrowed}
use Rattle.build_tables.specs.declared.places.Key.TheVariants as borrowed
use Rattle.build_tables.specs.Found.{key_of_borrowed}
use Rattle.build_tables.specs.Keys.{Key, by_name, on_day, between, by_reservation, type_number, is_key, AreApart, key_place}

-- the first that passes is at the first place that passes
find_first : {A : Type 0} (p : A → Bool) (xs : List A) (k : ℕ) (x : A) → k < length xs → x ≡ get_or xs k x → p x ≡ true → ((j : ℕ) → j < k → p (get_or xs j x) ≡ false) → find p xs ≡ Some x
find_first p [] k x below is passes fail = absurd (omega arith)
find_first p (y ∷ ys) zero x below is passes fail = ap (λ b. cond b (Some y) (find p ys)) (ap p (sym is) ∙ passes) ∙ ap (λ z. Some z) (sym is)
find_first p (y ∷ ys) (suc k) x below is passes fail = ap (λ b. cond b (Some y) (find p ys)) (fail 0 (omega arith)) ∙ find_first p ys k x (omega arith) is passes (λ j lt. fail (suc j) (omega arith))

find_never : {A : Type 0} (p : A → Bool) (xs : List A) → ((j : ℕ) (d : A) → j < length xs → p (get_or xs j d) ≡ false) → find p xs ≡ None
find_never p [] fail = refl
find_never p (y ∷ ys) fail = ap (λ b. cond b (Some y) (find p ys)) (fail 0 y (omega arith)) ∙ find_never p ys (λ j d lt. fail (suc j) d (omega arith))

not_some : (b : Bool) (n : ℕ) → None ≡ cond b (Some n) None → b ≡ false
not_some true n e = absurd cc
not_some false n e = refl

-- what is found stands at the place
pub find_at_place : {A : Type 0} (p : A → Bool) (xs : List A) (k : ℕ) (x : A) → Some k ≡ position p xs → x ≡ get_or xs k x → Some x ≡ find p xs
find_at_place p xs k x at is =
    let found = position-Some p xs k x (sym at) in
    sym (find_first p xs k x found.0 is (ap p is ∙ found.1) found.2)

-- and nothing is found where there is no place
pub find_nowhere : {A : Type 0} (p : A → Bool) (xs : List A) → None ≡ position p xs → None ≡ find p xs
find_nowhere p xs at =
    let past : length xs ≤ position_or_len p xs = ltb-false _ _ (not_some _ _ at) in
    sym (find_never p xs (λ j d lt. fails_before_first p xs j d (omega arith)))

-- the first place, from the first row on
place_by : (b : Bool) (m n : ℕ) → cond (ltb (cond (not b) (1 + m) 0) (suc n)) (Some (cond (not b) (1 + m) 0)) None ≡ cond b (Some 0) (option_map suc (cond (ltb m n) (Some m) None))
place_by true m n = cond-true (ltb 0 (suc n)) (Some 0) None (lt-ltb 0 (suc n) (omega arith))
place_by false m n = elim (cases_lt m n) [
  | inl below ↦ cond-true (ltb (1 + m) (suc n)) (Some (1 + m)) None (lt-ltb (1 + m) (suc n) (omega arith)) ∙ ap (λ k. Some k) (omega arith) ∙ sym (ap (option_map suc) (cond-true (ltb m n) (Some m) None (lt-ltb m n below)))
  | inr past ↦ cond-false (ltb (1 + m) (suc n)) (Some (1 + m)) None (le-ltb (1 + m) (suc n) (omega arith)) ∙ sym (ap (option_map suc) (cond-false (ltb m n) (Some m) None (le-ltb m n past)))
]

pub position-cons : {A : Type 0} (p : A → Bool) (x : A) (xs : List A) → position p (x ∷ xs) ≡ cond (p x) (Some 0) (option_map suc (position p xs))
position-cons p x xs = place_by (p x) (position_or_len p xs) (length xs)

counted_on : (b : Bool) (i : ℕ) (o : Option ℕ) → option_map (λ n. i + n) (cond b (Some 0) (option_map suc o)) ≡ cond b (Some i) (option_map (λ n. i + 1 + n) o)
counted_on true i o = ap (λ n. Some n) (omega arith)
counted_on false i None = refl
counted_on false i (Some n) = ap (λ n. Some n) (omega arith)

pub counted_from_first : (o : Option ℕ) → option_map (λ n. 0 + n) o ≡ o
counted_from_first None = refl
counted_from_first (Some n) = ap (λ n. Some n) (omega arith)

-- reservations of one type are on one way
same_type : (a b : Bool) → eqb (type_number a) (type_number b) ≡ true → a ≡ b
same_type true true h = refl
same_type false false h = refl
same_type true false h = absurd (false≢true h)
same_type false true h = absurd (false≢true h)

-- a key that passes is the same
pub same_key : (a b : Key) → is_key a b ≡ true → a ≡ b
same_key (by_name a) (by_name b) h = ap by_name ((bytes_eq-Decides a b).0 h)
same_key (on_day a n) (on_day b m) h =
    let parts = and_parts (bytes_eq a b) (eqb n m) h in
    let first = (bytes_eq-Decides a b).0 parts.0 in
    let second = eqb-true n m parts.1 in
    λ i. on_day (first i) (second i)
same_key (between a c) (between b d) h =
    let parts = and_parts (bytes_eq a b) (bytes_eq c d) h in
    let first = (bytes_eq-Decides a b).0 parts.0 in
    let second = (bytes_eq-Decides c d).0 parts.1 in
    λ i. between (first i) (second i)
same_key (by_reservation a n) (by_reservation b m) h =
    let parts = and_parts (bytes_eq a b) (eqb (type_number n) (type_number m)) h in
    let first = (bytes_eq-Decides a b).0 parts.0 in
    let second = same_type n m parts.1 in
    λ i. by_reservation (first i) (second i)
same_key (by_name a) (on_day b m) h = absurd (false≢true h)
same_key (by_name a) (between b d) h = absurd (false≢true h)
same_key (by_name a) (by_reservation b m) h = absurd (false≢true h)
same_key (on_day a n) (by_name b) h = absurd (false≢true h)
same_key (on_day a n) (between b d) h = absurd (false≢true h)
same_key (on_day a n) (by_reservation b m) h = absurd (false≢true h)
same_key (between a c) (by_name b) h = absurd (false≢true h)
same_key (between a c) (on_day b m) h = absurd (false≢true h)
same_key (between a c) (by_reservation b m) h = absurd (false≢true h)
same_key (by_reservation a n) (by_name b) h = absurd (false≢true h)
same_key (by_reservation a n) (on_day b m) h = absurd (false≢true h)
same_key (by_reservation a n) (between b d) h = absurd (false≢true h)

-- a key that differs from another differs from it the other way round
turned_key : (a b : Key) → is_key a b ≡ false → is_key b a ≡ false
turned_key a b differs = elim (cases_Bool (is_key b a)) [
  | inl same ↦ (let is : b ≡ a = same_key b a same in absurd (false≢true (sym differs ∙ (λ j. is_key (sym is j) (is j)) ∙ same)))
  | inr apart ↦ apart
]

pub none_is : (o : Option ℕ) → is_some o ≡ false → o ≡ None
none_is None e = refl
none_is (Some n) e = absurd (false≢true (sym e))

none_mapped : (f : ℕ → ℕ) (o : Option ℕ) → option_map f o ≡ None → o ≡ None
none_mapped f None e = refl
none_mapped f (Some n) e = absurd cc

-- a row of rows that are apart has a key that no row before it has
pub none_before : {Row : Type 0} (key_of : Row → Key) (rows : List Row) (n : ℕ) (row : Row) → AreApart key_of rows → n < length rows → row ≡ get_or rows n row → list_any (λ before. is_key (key_of row) (key_of before)) (take n rows) ≡ false
none_before key_of rows n row apart below is = list_any_none (λ before. is_key (key_of row) (key_of before)) (take n rows) (λ j d inside.
    let front : j < n = omega (arith, inside, length-take-le n rows (omega arith)) in
    let at : get_or (take n rows) j row ≡ get_or rows j row = get_or-take n rows j row front in
    let pair : is_key (key_of (get_or rows n row)) (key_of (get_or rows j row)) ≡ false = apart j n row front below in
    let first : get_or (take n rows) j d ≡ get_or (take n rows) j row = get_or_default (take n rows) j d row inside in
    ap (λ before. is_key (key_of row) (key_of before)) (first ∙ at) ∙ ap (λ r. is_key (key_of r) (key_of (get_or rows j row))) is ∙ pair)

-- one more row before the others
module _ {Row : Type 0} (key_of : Row → Key) (rows : List Row) (i : ℕ) (row : Row) (below : i < length rows) (is : row ≡ get_or rows i row) where
  -- the places of the rows from here on, counted from the first row
  pub places_before : (key : Key) → option_map (λ n. i + n) (key_place key_of (drop i rows) key) ≡ cond (is_key key (key_of row)) (Some i) (option_map (λ n. i + 1 + n) (key_place key_of (drop (i + 1) rows) key))
  places_before key =
      let next : suc i ≡ i + 1 = omega arith in
      ap (λ rs. option_map (λ n. i + n) (key_place key_of rs key)) (drop-cons rows i row below ∙ ap (λ r. r ∷ drop (suc i) rows) (sym is))
      ∙ ap (option_map (λ n. i + n)) (position-cons (λ r. is_key key (key_of r)) row (drop (suc i) rows))
      ∙ counted_on (is_key key (key_of row)) i (position (λ r. is_key key (key_of r)) (drop (suc i) rows))
      ∙ ap (λ (m : ℕ). cond (is_key key (key_of row)) (Some i) (option_map (λ n. i + 1 + n) (key_place key_of (drop m rows) key))) next

  -- where no place is found after a row, its key is that of no row there
  pub apart_before : AreApart key_of (drop (i + 1) rows) → option_map (λ n. i + 1 + n) (key_place key_of (drop (i + 1) rows) (key_of row)) ≡ None → AreApart key_of (drop i rows)
  apart_before others none =
      let next : suc i ≡ i + 1 = omega arith in
      let rest = drop (i + 1) rows in
      let list : drop i rows ≡ row ∷ rest = drop-cons rows i row below ∙ (λ j. sym is j ∷ drop (next j) rows) in
      let past : length rest ≤ position_or_len (λ r. is_key (key_of row) (key_of r)) rest = ltb-false _ _ (not_some _ _ (sym (none_mapped _ _ none))) in
      subst (AreApart key_of) (sym list) (AllPairs-cons (λ (a b : Row). is_key (key_of b) (key_of a) ≡ false) row rest
      (λ j d inside. turned_key (key_of row) (key_of (get_or rest j d)) (fails_before_first (λ r. is_key (key_of row) (key_of r)) rest j d (omega (arith, inside, past))))
      others)

-- two keys are the same as borrowed where they are
same_as_borrowed : (a b : Borrowed) → eq-value.it a b ≡ is_key (key_of_borrowed a) (key_of_borrowed b)
same_as_borrowed (borrowed.Named a) (borrowed.Named b) = refl
same_as_borrowed (borrowed.Named a) (borrowed.OnDay b m) = refl
same_as_borrowed (borrowed.Named a) (borrowed.Between b d) = refl
same_as_borrowed (borrowed.Named a) (borrowed.Booked b m) = refl
same_as_borrowed (borrowed.OnDay a n) (borrowed.Named b) = refl
same_as_borrowed (borrowed.OnDay a n) (borrowed.OnDay b m) = refl
same_as_borrowed (borrowed.OnDay a n) (borrowed.Between b d) = refl
same_as_borrowed (borrowed.OnDay a n) (borrowed.Booked b m) = refl
same_as_borrowed (borrowed.Between a c) (borrowed.Named b) = refl
same_as_borrowed (borrowed.Between a c) (borrowed.OnDay b m) = refl
same_as_borrowed (borrowed.Between a c) (borrowed.Between b d) = refl
same_as_borrowed (borrowed.Between a c) (borrowed.Booked b m) = refl
same_as_borrowed (borrowed.Booked a n) (borrowed.Named b) = refl
same_as_borrowed (borrowed.Booked a n) (borrowed.OnDay b m) = refl
same_as_borrowed (borrowed.Booked a n) (borrowed.Between b d) = refl
same_as_borrowed (borrowed.Booked a true) (borrowed.Booked b true) = refl
same_as_borrowed (borrowed.Booked a true) (borrowed.Booked b false) = refl
same_as_borrowed (borrowed.Booked a false) (borrowed.Booked b true) = refl
same_as_borrowed (borrowed.Booked a false) (borrowed.Booked b false) = refl

pub lookup_borrowed : {X : Type 0} (k : Borrowed) (es : List (Borrowed × X)) → lookup (eq-value.it k) es ≡ lookup (λ x. is_key (key_of_borrowed k) (key_of_borrowed x)) es
lookup_borrowed k es = ap (λ (t : Borrowed → Bool). lookup t es) (λ i x. same_as_borrowed k x i)

-- a look-up after an insertion
over : {X : Type 0} (a b : Bool) (x y : X) (o : Option X) → a ≡ b → cond a (Some x) o ≡ cond b (Some x) (cond a (Some y) o)
over true true x y o same = refl
over true false x y o same = absurd (false≢true (sym same))
over false true x y o same = absurd (false≢true same)
over false false x y o same = refl

past : {X : Type 0} (a b : Bool) (x y : X) (o : Option X) → (a ≡ true → b ≡ true → ⊥) → cond a (Some y) (cond b (Some x) o) ≡ cond b (Some x) (cond a (Some y) o)
past true true x y o apart = absurd (apart refl refl)
past true false x y o apart = refl
past false b x y o apart = refl

pub lookup_inserted : {X : Type 0} (key : Key) (es : List (Borrowed × X)) (k : Borrowed) (v : X) → lookup (λ x. is_key key (key_of_borrowed x)) (insert_entry eq-value.it es k v) ≡ cond (is_key key (key_of_borrowed k)) (Some v) (lookup (λ x. is_key key (key_of_borrowed x)) es)
lookup_inserted key [] k v = refl
lookup_inserted {X} key (e ∷ es) k v =
    let t = λ (x : Borrowed). is_key key (key_of_borrowed x) in
    let eq_is : eq-value.it k e.0 ≡ is_key (key_of_borrowed k) (key_of_borrowed e.0) = same_as_borrowed k e.0 in
    elim (cases_Bool (eq-value.it k e.0)) [
      | inl same ↦ (
          let keys : key_of_borrowed k ≡ key_of_borrowed e.0 = same_key (key_of_borrowed k) (key_of_borrowed e.0) (sym eq_is ∙ same) in
          ap (λ b. lookup t (cond b ((e.0, v) ∷ es) (e ∷ insert_entry eq-value.it es k v))) same
          ∙ over (t e.0) (t k) v e.1 (lookup t es) (ap (is_key key) (sym keys)))
      | inr differs ↦ (
          let apart : t e.0 ≡ true → t k ≡ true → ⊥ = λ first second. false≢true (sym differs ∙ eq_is ∙ ap (λ q. is_key q (key_of_borrowed e.0)) (sym (same_key key (key_of_borrowed k) second)) ∙ first) in
          ap (λ b. lookup t (cond b ((e.0, v) ∷ es) (e ∷ insert_entry eq-value.it es k v))) differs
          ∙ ap (cond (t e.0) (Some e.1)) (lookup_inserted key es k v)
          ∙ past (t e.0) (t k) v e.1 (lookup t es) apart)
    ]

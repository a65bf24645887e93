-- One row more in the places of the rows of dist.csv.
use Rattle.std.proofs.Common.{◌≡◌, ◌≢◌, ℕ, ◌*◌, ◌<◌, ◌≤◌, inl, inr, Bool, true, false, cond, ltb, List, [], ◌∷◌, length, get_or, bytes_eq, Option, Some, None, refl, sym, ap, ◌∙◌, arith, AllPairs}
use Rattle.std.specs.Prelude.{position, ◌&&◌, IfSome, min}
use Rattle.std.specs.List.{position_or_len}
use Rattle.std.proofs.lemmas.Bool.{cases_Bool, and_parts, and_from, ltb-true, lt-ltb, false_from_ne_true, false≢true}
use Rattle.std.proofs.lemmas.List.{get_or-set_same, get_or-set_other}
use Rattle.std.proofs.lemmas.List.Quantifiers.{position-Some}
use Rattle.std.proofs.lemmas.List.Sums.{position_or_len_is}
use Rattle.std.proofs.lemmas.Slice.Eq.{bytes_eq-Decides}
use Rattle.std.proofs.lemmas.Option.{same_Some}
use Rattle.file_rows.specs.declared.network.AirportRow.{AirportRow}
use Rattle.file_rows.specs.declared.network.DistRow.{DistRow}
use Rattle.build_tables.specs.declared.pairs.PairPlaces.{PairPlaces}
use Rattle.build_tables.specs.Found.{place_in}
use Rattle.build_tables.specs.Keys.{by_name, between, AreApart}
use Rattle.build_tables.specs.Names.{airport_place, is_between}
use Rattle.build_tables.specs.Pairs.{pair_place, pair_at, pair_of, numbered_with, named_with, place_by, ArePairPlaces}

-- a place that is found is among the rows
pub place_within : {A : Type 0} (p : A → Bool) (xs : List A) (k : ℕ) → position p xs ≡ Some k → k < length xs
place_within p [] k e = absurd cc
place_within p (x ∷ xs) k e = (position-Some p (x ∷ xs) k x e).0

-- airports with keys of their own have names of their own
pub apart_names : (airports : List AirportRow) → AreApart (λ row. by_name row.airport) airports → AllPairs (λ a b. a.airport ≢ b.airport) airports
apart_names airports apart j k d before below = λ same. false≢true (sym (apart j k d before below) ∙ (bytes_eq-Decides (get_or airports k d).airport (get_or airports j d).airport).1 (sym same))

-- an airport of this name stands at the place of the name
pub place_is : (airports : List AirportRow) → AllPairs (λ a b. a.airport ≢ b.airport) airports → (name : List ℕ) (k : ℕ) (d : AirportRow) → k < length airports → (get_or airports k d).airport ≡ name → Some k ≡ airport_place airports name
place_is airports apart name k d below named =
    let Named : AirportRow → Bool = λ a. bytes_eq name a.airport in
    let at : position_or_len Named airports ≡ k = position_or_len_is Named airports k d (omega arith)
    (λ j before. false_from_ne_true (Named (get_or airports j d)) (λ same. apart j k d before below (sym ((bytes_eq-Decides name (get_or airports j d).airport).0 same) ∙ sym named)))
    (λ within. (bytes_eq-Decides name (get_or airports k d).airport).1 (sym named)) in
    sym (ap (λ n. cond (ltb n (length airports)) (Some n) None) at ∙ ap (λ b. cond b (Some k) None) (lt-ltb k (length airports) below))

-- a number is that of two places below 500
record IsPair (origin dest : Option ℕ) (k : ℕ) : Type 0 where
  from : ℕ
  to : ℕ
  origin_at : origin ≡ Some from
  dest_at : dest ≡ Some to
  from_below : from < 500
  to_below : to < 500
  number : k ≡ pair_place from to

pair_if : (o d k : ℕ) (b c : Bool) → ltb o 500 ≡ b → ltb d 500 ≡ c → cond (b && c) (Some (pair_place o d)) None ≡ Some k → IsPair (Some o) (Some d) k
pair_if o d k true true below within e = record { from = o; to = d; origin_at = refl; dest_at = refl; from_below = ltb-true o 500 below; to_below = ltb-true d 500 within; number = sym (same_Some (pair_place o d) k e) }
pair_if o d k true false below within e = absurd cc
pair_if o d k false c below within e = absurd cc

is_pair : (origin dest : Option ℕ) (k : ℕ) → pair_at origin dest ≡ Some k → IsPair origin dest k
is_pair None dest k e = absurd cc
is_pair (Some o) None k e = absurd cc
is_pair (Some o) (Some d) k e = pair_if o d k (ltb o 500) (ltb d 500) refl refl e

-- a number that two names have is in the table
pub pair_within : (airports : List AirportRow) (origin dest : List ℕ) (k : ℕ) → pair_of airports origin dest ≡ Some k → k < 500 * min (length airports) 500
pair_within airports origin dest k e =
    let pair = is_pair (airport_place airports origin) (airport_place airports dest) k e in
    let below = place_within (λ a. bytes_eq origin a.airport) airports pair.from pair.origin_at in
    omega (arith, pair.number, pair.from_below, pair.to_below, below)

-- the number of two places
pub pair_numbered : (origin dest : Option ℕ) (o d : ℕ) → origin ≡ Some o → dest ≡ Some d → o < 500 → d < 500 → pair_at origin dest ≡ Some (pair_place o d)
pair_numbered origin dest o d one two below within =
    (λ j. pair_at (one j) (two j))
    ∙ ap (λ b. cond (b && ltb d 500) (Some (pair_place o d)) None) (lt-ltb o 500 below)
    ∙ ap (λ b. cond (true && b) (Some (pair_place o d)) None) (lt-ltb d 500 within)

-- names whose airports stand at one place are the same
same_name : (airports : List AirportRow) (a b : List ℕ) (k : ℕ) → airport_place airports a ≡ Some k → airport_place airports b ≡ Some k → bytes_eq a b ≡ true
same_name [] a b k first second = absurd cc
same_name (x ∷ xs) a b k first second =
    let one = position-Some (λ (row : AirportRow). bytes_eq a row.airport) (x ∷ xs) k x first in
    let two = position-Some (λ (row : AirportRow). bytes_eq b row.airport) (x ∷ xs) k x second in
    let at = (get_or (x ∷ xs) k x).airport in
    (bytes_eq-Decides a b).1 ((bytes_eq-Decides a at).0 one.1 ∙ sym ((bytes_eq-Decides b at).0 two.1))

-- pairs of one number are of the same names
same_pair : (airports : List AirportRow) (row : DistRow) (origin dest : List ℕ) (k : ℕ) → pair_of airports row.origin row.dest ≡ Some k → pair_of airports origin dest ≡ Some k → is_between origin dest row ≡ true
same_pair airports row origin dest k first second =
    let one = is_pair (airport_place airports row.origin) (airport_place airports row.dest) k first in
    let two = is_pair (airport_place airports origin) (airport_place airports dest) k second in
    let from : one.from ≡ two.from = omega (arith, one.number, two.number, one.to_below, two.to_below) in
    let to : one.to ≡ two.to = omega (arith, one.number, two.number, one.to_below, two.to_below) in
    and_from (bytes_eq origin row.origin) (bytes_eq dest row.dest)
    (same_name airports origin row.origin two.from two.origin_at (one.origin_at ∙ ap (λ n. Some n) from))
    (same_name airports dest row.dest two.to two.dest_at (one.dest_at ∙ ap (λ n. Some n) to))

-- what is kept of the pair that was put in
kept_here : (pairs : List (Option ℕ)) (old : Option ℕ) (place : ℕ) (pair : Option ℕ) → ((k : ℕ) → pair ≡ Some k → k < length pairs) → place_by (numbered_with pairs pair place) pair (named_with old pair true place) ≡ Some place
kept_here pairs old place None within = refl
kept_here pairs old place (Some k) within = get_or-set_same pairs k (Some place) None (within k refl)

-- and of another one
kept_elsewhere : (pairs : List (Option ℕ)) (old : Option ℕ) (place : ℕ) (pair other : Option ℕ) → ((k : ℕ) → pair ≡ Some k → other ≡ Some k → ⊥) → place_by (numbered_with pairs pair place) other (named_with old pair false place) ≡ place_by pairs other old
kept_elsewhere pairs old place None None apart = refl
kept_elsewhere pairs old place None (Some m) apart = refl
kept_elsewhere pairs old place (Some k) None apart = refl
kept_elsewhere pairs old place (Some k) (Some m) apart = get_or-set_other pairs k m (Some place) None (λ same. apart k refl (ap (λ n. Some n) same))

-- the place for two names, once a row is put in
pub kept_more : (airports : List AirportRow) (row : DistRow) (pairs : List (Option ℕ)) (old : Option ℕ) (place : ℕ) (origin dest : List ℕ) → ((k : ℕ) → pair_of airports row.origin row.dest ≡ Some k → k < length pairs)
    → place_by (numbered_with pairs (pair_of airports row.origin row.dest) place) (pair_of airports origin dest) (named_with old (pair_of airports row.origin row.dest) (is_between origin dest row) place)
    ≡ cond (is_between origin dest row) (Some place) (place_by pairs (pair_of airports origin dest) old)
kept_more airports row pairs old place origin dest within =
    let own = pair_of airports row.origin row.dest in
    let asked = pair_of airports origin dest in
    let new = λ (b : Bool). place_by (numbered_with pairs own place) asked (named_with old own b place) in
    let goal = λ (b : Bool). cond b (Some place) (place_by pairs asked old) in
    elim (cases_Bool (is_between origin dest row)) [
      | inl same ↦ (
          let names = and_parts (bytes_eq origin row.origin) (bytes_eq dest row.dest) same in
          let first = (bytes_eq-Decides origin row.origin).0 names.0 in
          let second = (bytes_eq-Decides dest row.dest).0 names.1 in
          ap new same
          ∙ (λ j. place_by (numbered_with pairs own place) (pair_of airports (first j) (second j)) (named_with old own true place))
          ∙ kept_here pairs old place own within
          ∙ sym (ap goal same))
      | inr differs ↦ (
          ap new differs
          ∙ kept_elsewhere pairs old place own asked (λ k one two. false≢true (sym differs ∙ same_pair airports row origin dest k one two))
          ∙ sym (ap goal differs))
    ]

-- what is kept for two airports, by their places
pub at_places : (airports : List AirportRow) → length airports ≤ 500 → AllPairs (λ a b. a.airport ≢ b.airport) airports → (dist : List DistRow) (p : PairPlaces) → ArePairPlaces airports dist p → (o d : ℕ) (a b : AirportRow) → o < length airports → d < length airports → get_or p.pairs.items (pair_place o d) None ≡ position (is_between (get_or airports o a).airport (get_or airports d b).airport) dist
at_places airports few apart dist p placed o d a b before within =
    let from = (get_or airports o a).airport in
    let to = (get_or airports d b).airport in
    let number : pair_of airports from to ≡ Some (pair_place o d) = pair_numbered (airport_place airports from) (airport_place airports to) o d (sym (place_is airports apart from o a before refl)) (sym (place_is airports apart to d b within refl)) (omega (arith, few, before)) (omega (arith, few, within)) in
    sym (ap (λ (pair : Option ℕ). place_by p.pairs.items pair (place_in p.others (between from to))) number) ∙ placed.places from to

-- the first place is among the rows
first_by : {A : Type 0} (p : A → Bool) (xs : List A) (o : Option ℕ) → position p xs ≡ o → IfSome o (λ k. k < length xs)
first_by p xs None e = tt
first_by p xs (Some k) e = place_within p xs k e

pub first_within : {A : Type 0} (p : A → Bool) (xs : List A) → IfSome (position p xs) (λ k. k < length xs)
first_within p xs = first_by p xs (position p xs) refl

-- where nothing is kept no place is found
pub none_kept : (pairs : List (Option ℕ)) (pair named : Option ℕ) → named ≡ None → ((k : ℕ) → get_or pairs k None ≡ None) → place_by pairs pair named ≡ None
none_kept pairs None named none empty = none
none_kept pairs (Some k) named none empty = empty k

-- What several laps add up to.
use Rattle.std.proofs.Common.{◌≡◌, ℕ, zero, suc, ◌<◌, ◌≤◌, ◌==◌, true, false, List, [], ◌∷◌, ◌++◌, length, map, drop, get_or, slice_get, refl, sym, ap, ◌∙◌, arith, inl, inr, ⊎_elim, ◌⊎◌}
use Rattle.std.specs.Prelude.{Some, None}
use mathlib.Core.List.{IsPrefix}
use Rattle.std.proofs.lemmas.List.{append-nil, append_assoc, map-append, drop_at, drop_all}
use Rattle.turn_book.specs.Names.{knows}
use Rattle.turn_book.specs.Places.{has}
use Rattle.turn_book.proofs.Bools.{off, refute, or_left, or_right, or_cases}
use Rattle.turn_book.proofs.Prefixes.{prefix_self, prefix_trans}
use Rattle.turn_book.proofs.SplitLaws.{none_out}
use Rattle.desk_teams.specs.declared.trail.Trail.{Trail}
use Rattle.desk_model.specs.declared.answer.Entry.{Entry}
use Rattle.desk_teams.proofs.TrailLaws.{budget-longer}
use Rattle.desk_pool.specs.declared.worker.Worker.{Worker}
use Rattle.desk_pool.specs.Rounds.{Knows, place_of}
use Rattle.desk_pool.specs.Workers.{trail_of}
use Rattle.desk_pool.specs.Laps.{new_items, new_places, GoesOn, SomeNew, HasGained, IsReturned}

-- ---- places of two lists

pub has_split : (k : ℕ) (xs ys : List ℕ) → has k (xs ++ ys) ≡ true → (has k xs ≡ true) ⊎ (has k ys ≡ true)
has_split k [] ys h = inr h
has_split k (x ∷ xs) ys h =
    ⊎_elim
    (λ (e : (k == x) ≡ true). inl (or_left (k == x) (has k xs) e))
    (λ (r : has k (xs ++ ys) ≡ true). ⊎_elim (λ (a : has k xs ≡ true). inl (or_right (k == x) (has k xs) a)) (λ (b : has k ys ≡ true). inr b) (has_split k xs ys r))
    (or_cases (k == x) (has k (xs ++ ys)) h)

pub has_in_front : (k : ℕ) (xs ys : List ℕ) → has k xs ≡ true → has k (xs ++ ys) ≡ true
has_in_front k [] ys h = absurd (off h)
has_in_front k (x ∷ xs) ys h =
    ⊎_elim
    (λ (e : (k == x) ≡ true). or_left (k == x) (has k (xs ++ ys)) e)
    (λ (r : has k xs ≡ true). or_right (k == x) (has k (xs ++ ys)) (has_in_front k xs ys r))
    (or_cases (k == x) (has k xs) h)

pub has_in_back : (k : ℕ) (xs ys : List ℕ) → has k ys ≡ true → has k (xs ++ ys) ≡ true
has_in_back k [] ys h = h
has_in_back k (x ∷ xs) ys h = or_right (k == x) (has k (xs ++ ys)) (has_in_back k xs ys h)

pub get-append : {X : Type 0} (xs ys : List X) (i : ℕ) (x : X) → slice_get (xs ++ ys) i ≡ Some x → (slice_get xs i ≡ Some x) ⊎ ((j : ℕ) × (slice_get ys j ≡ Some x))
get-append [] ys i x is = inr (i, is)
get-append (y ∷ xs) ys zero x is = inl is
get-append (y ∷ xs) ys (suc i) x is = get-append xs ys i x is

-- ---- trails that go on twice

items_on : (most low high : ℕ) (h g : List Entry) (old mid new : Worker) → GoesOn most low h old mid → GoesOn most high g mid new → new_items old new ≡ new_items old mid ++ new_items mid new
items_on most low high h g old mid new a b =
    ap (drop (length (trail_of old))) (b.trail ∙ ap (λ (l : List Trail). l ++ new_items mid new) a.trail ∙ append_assoc (trail_of old) (new_items old mid) (new_items mid new))
    ∙ drop_at (trail_of old) (new_items old mid ++ new_items mid new) (length (trail_of old)) refl

places_on : (most low high : ℕ) (h g : List Entry) (old mid new : Worker) → GoesOn most low h old mid → GoesOn most high g mid new → new_places old new ≡ new_places old mid ++ new_places mid new
places_on most low high h g old mid new a b = ap (map place_of) (items_on most low high h g old mid new a b) ∙ map-append place_of (new_items old mid) (new_items mid new)

goes_on_on : (most low high : ℕ) (h g : List Entry) (old mid new : Worker) → low ≤ high → IsPrefix h g → GoesOn most low h old mid → GoesOn most high g mid new → GoesOn most low g old new
goes_on_on most low high h g old mid new le more a b =
    let items = items_on most low high h g old mid new a b in
    record {
      same = record { number = b.same.number ∙ a.same.number; shards = b.same.shards ∙ a.same.shards };
      trail = b.trail ∙ ap (λ (l : List Trail). l ++ new_items mid new) a.trail ∙ append_assoc (trail_of old) (new_items old mid) (new_items mid new) ∙ ap (λ (l : List Trail). trail_of old ++ l) (sym items);
      since = λ i t at. ⊎_elim
          (λ (first : slice_get (new_items old mid) i ≡ Some t). a.since i t first)
          (λ (second : (j : ℕ) × (slice_get (new_items mid new) j ≡ Some t)). (let more = b.since second.0 t second.1 in omega (arith, le, more)))
          (get-append (new_items old mid) (new_items mid new) i t (ap (λ (l : List Trail). slice_get l i) (sym items) ∙ at));
      in_budget = λ i t at. ⊎_elim
          (λ (first : slice_get (new_items old mid) i ≡ Some t). budget-longer most h g t more (a.in_budget i t first))
          (λ (second : (j : ℕ) × (slice_get (new_items mid new) j ≡ Some t)). b.in_budget second.0 t second.1)
          (get-append (new_items old mid) (new_items mid new) i t (ap (λ (l : List Trail). slice_get l i) (sym items) ∙ at));
    }

no_items : (w : Worker) → new_items w w ≡ []
no_items w = drop_all (length (trail_of w)) (trail_of w) (omega arith)

pub gained_none : (most low : ℕ) (v : Knows) (workers : List Worker) → HasGained most low v v workers workers
gained_none most low v workers =
    let empty = λ (w : Worker) (k : ℕ) (is : has k (new_places w w) ≡ true). off (ap (λ (l : List Trail). has k (map place_of l)) (sym (no_items w)) ∙ is) in
    record {
      began = prefix_self v.seen;
      workers = refl;
      trails = λ i d lt.
          let w = get_or workers i d in
          record {
            same = record { number = refl; shards = refl };
            trail = sym (append-nil (trail_of w)) ∙ ap (λ (l : List Trail). trail_of w ++ l) (sym (no_items w));
            since = λ j t at. absurd (let none : None ≡ Some t = ap (λ (l : List Trail). slice_get l j) (sym (no_items w)) ∙ at in cc none);
            in_budget = λ j t at. absurd (let none : None ≡ Some t = ap (λ (l : List Trail). slice_get l j) (sym (no_items w)) ∙ at in cc none);
          };
      made_only = λ k is. inl is;
      made_before = λ k is. is;
      made_since = λ k some. absurd (empty (get_or workers some.0 some.1) k some.3);
      apart = λ i j d k ne low high is. absurd (empty (get_or workers i d) k is);
    }

module _ (most low high : ℕ) (v u w : Knows) (workers_before workers_between workers_after : List Worker) (le : low ≤ high) (a : HasGained most low v u workers_before workers_between) (b : HasGained most high u w workers_between workers_after) where
  in_first : (i : ℕ) (d : Worker) → i < length workers_before → (k : ℕ) → has k (new_places (get_or workers_before i d) (get_or workers_between i d)) ≡ true → has k (new_places (get_or workers_before i d) (get_or workers_after i d)) ≡ true
  in_first i d lt k is = ap (has k) (places_on most low high _ _ _ _ _ (a.trails i d lt) (b.trails i d (omega (arith, a.workers, lt)))) ∙ has_in_front k _ _ is

  in_second : (i : ℕ) (d : Worker) → i < length workers_before → (k : ℕ) → has k (new_places (get_or workers_between i d) (get_or workers_after i d)) ≡ true → has k (new_places (get_or workers_before i d) (get_or workers_after i d)) ≡ true
  in_second i d lt k is = ap (has k) (places_on most low high _ _ _ _ _ (a.trails i d lt) (b.trails i d (omega (arith, a.workers, lt)))) ∙ has_in_back k (new_places (get_or workers_before i d) (get_or workers_between i d)) _ is

  in_one : (i : ℕ) (d : Worker) → i < length workers_before → (k : ℕ) → has k (new_places (get_or workers_before i d) (get_or workers_after i d)) ≡ true → (has k (new_places (get_or workers_before i d) (get_or workers_between i d)) ≡ true) ⊎ (has k (new_places (get_or workers_between i d) (get_or workers_after i d)) ≡ true)
  in_one i d lt k is = has_split k _ _ (ap (has k) (sym (places_on most low high _ _ _ _ _ (a.trails i d lt) (b.trails i d (omega (arith, a.workers, lt))))) ∙ is)

  first_made : (i : ℕ) (d : Worker) → i < length workers_before → (k : ℕ) → has k (new_places (get_or workers_before i d) (get_or workers_between i d)) ≡ true → has k u.made ≡ true
  first_made i d lt k is = (a.made_since k (i, d, lt, is)).0

  second_new : (i : ℕ) (d : Worker) → i < length workers_before → (k : ℕ) → has k (new_places (get_or workers_between i d) (get_or workers_after i d)) ≡ true → has k u.made ≡ false
  second_new i d lt k is = (b.made_since k (i, d, omega (arith, a.workers, lt), is)).1

  pub gained_on : HasGained most low v w workers_before workers_after
  gained_on = record {
    began = prefix_trans v.seen u.seen w.seen a.began b.began;
    workers = b.workers ∙ a.workers;
    trails = λ i d lt. goes_on_on most low high _ _ _ _ _ le b.began (a.trails i d lt) (b.trails i d (omega (arith, a.workers, lt)));
    made_only = λ k is. ⊎_elim
        (λ (mid : has k u.made ≡ true). ⊎_elim
        (λ (old : has k v.made ≡ true). inl old)
        (λ (some : SomeNew workers_before workers_between k). inr (some.0, some.1, some.2, in_first some.0 some.1 some.2 k some.3))
        (a.made_only k mid))
        (λ (some : SomeNew workers_between workers_after k). (let lt = some.2 in let within : some.0 < length workers_before = omega (arith, lt, a.workers) in inr (some.0, some.1, within, in_second some.0 some.1 within k some.3)))
        (b.made_only k is);
    made_before = λ k is. b.made_before k (a.made_before k is);
    made_since = λ k some. ⊎_elim
        (λ (first : has k (new_places (get_or workers_before some.0 some.1) (get_or workers_between some.0 some.1)) ≡ true).
        (let was = a.made_since k (some.0, some.1, some.2, first) in (b.made_before k was.0, was.1)))
        (λ (second : has k (new_places (get_or workers_between some.0 some.1) (get_or workers_after some.0 some.1)) ≡ true).
        (let is = b.made_since k (some.0, some.1, omega (arith, a.workers, some.2), second) in (is.0, refute (has k v.made) (λ old. off (sym is.1 ∙ a.made_before k old)))))
        (in_one some.0 some.1 some.2 k some.3);
    apart = λ i j d k ne lt there is. refute (has k (new_places (get_or workers_before j d) (get_or workers_after j d))) (λ also. ⊎_elim
        (λ (mine : has k (new_places (get_or workers_before i d) (get_or workers_between i d)) ≡ true). ⊎_elim
        (λ (other : has k (new_places (get_or workers_before j d) (get_or workers_between j d)) ≡ true). off (sym (a.apart i j d k ne lt there mine) ∙ other))
        (λ (other : has k (new_places (get_or workers_between j d) (get_or workers_after j d)) ≡ true). off (sym (second_new j d there k other) ∙ first_made i d lt k mine))
        (in_one j d there k also))
        (λ (mine : has k (new_places (get_or workers_between i d) (get_or workers_after i d)) ≡ true). ⊎_elim
        (λ (other : has k (new_places (get_or workers_before j d) (get_or workers_between j d)) ≡ true). off (sym (second_new i d lt k mine) ∙ first_made j d there k other))
        (λ (other : has k (new_places (get_or workers_between j d) (get_or workers_after j d)) ≡ true). off (sym (b.apart i j d k ne (omega (arith, a.workers, lt)) (omega (arith, a.workers, there)) mine) ∙ other))
        (in_one j d there k also))
        (in_one i d lt k is));
  }

pub returned_none : (v : Knows) → IsReturned v v
returned_none v = record { name = refl; out = λ m k. k }

pub returned_on : (v u w : Knows) → IsReturned v u → IsReturned u w → IsReturned v w
returned_on v u w a b = record { name = b.name ∙ a.name; out = λ m k. a.out m (b.out m k) }

-- ---- nothing is out

pub closes_name : (v w : Knows) → IsReturned v w → w.tags.name ≡ v.tags.name
closes_name v w back = back.name

pub closes_out : (v w : Knows) → v.tags.out ≡ [] → IsReturned v w → w.tags.out ≡ []
closes_out v w none back = none_out w.tags.out (λ m k. off (sym (ap (knows m) none) ∙ back.out m k))

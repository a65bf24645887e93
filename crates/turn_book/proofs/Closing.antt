-- The rule at the start and at the end.
use Rattle.std.proofs.Common.{◌≡◌, ◌≢◌, ℕ, zero, suc, ◌+◌, ◌-◌, ◌<◌, ◌≤◌, ◌==◌, true, false, List, [], ◌∷◌, ◌++◌, length, Option, Some, refl, sym, ap, ◌∙◌, subst, ⊎_elim, arith, length-append, append_assoc, eq-eqb, slice_get}
use Rattle.std.proofs.lemmas.Bool.Decides.{nat_tests}
use mathlib.Core.Option.{some, none, some-injective, some-ne-none}
use mathlib.Core.Logic.{dite}
use native.Mathlib.Decide.{ℕ_discrete}
use lib.ListN.{get_elem?}
use Rattle.atomic_table.specs.Table.{State, opening as begun_at}
use Rattle.turn_book.specs.declared.view.View.{View}
use Rattle.turn_book.specs.Histories.{listed, items_at, places_from}
use Rattle.turn_book.specs.Names.{Name, knows}
use Rattle.turn_book.specs.Places.{has, Ascends}
use Rattle.turn_book.specs.Knowing.{IsLive, opened}
use Rattle.turn_book.specs.Rule.{held, ViewRule, IsHome, TurnRule, TagsRule}
use Rattle.turn_book.proofs.Bools.{off, or_left, or_right, or_cases}
use Rattle.turn_book.proofs.Prefixes.{prefix_self, prefix_length, prefix_whole}
use Rattle.turn_book.proofs.Naming.{alone}

-- an ascending list of the n numbers from a on
pub all_places : (n a : ℕ) (xs : List ℕ) → Ascends xs → ((k : ℕ) → has k xs ≡ true → (a ≤ k) × (k < a + n)) → ((k : ℕ) → a ≤ k → k < a + n → has k xs ≡ true) → xs ≡ places_from a n
all_places zero a [] up few all = refl
all_places zero a (x ∷ xs) up few all = let b = few x (or_left _ _ (eq-eqb x x refl)) in absurd (omega (arith, b))
all_places (suc n) a [] up few all = absurd (off (all a (omega arith) (omega arith)))
all_places (suc n) a (x ∷ xs) up few all =
    let low : a ≤ x = (few x (or_left _ _ (eq-eqb x x refl))).0 in
    let first : x ≡ a = ⊎_elim (λ (e : (a == x) ≡ true). grind (arith, nat_tests)) (λ (e : has a xs ≡ true). let lt : x < a = up.0 a e in absurd (omega arith)) (or_cases (a == x) (has a xs) (all a (omega arith) (omega arith))) in
    let rest : xs ≡ places_from (suc a) n = all_places n (suc a) xs up.1
    (λ k h. let lt : x < k = up.0 k h in let b = few k (or_right (k == x) _ h) in (omega arith, omega (arith, b.1)))
    (λ k l r. ⊎_elim (λ (e : (k == x) ≡ true). let same : k ≡ x = grind (arith, nat_tests) in absurd (omega arith)) (λ (e : has k xs ≡ true). e) (or_cases (k == x) (has k xs) (all k (omega arith) (omega arith)))) in
    λ i. first i ∷ rest i

get_after : {I : Type 0} (xs : List I) (y : I) (ys : List I) → slice_get (xs ++ y ∷ ys) (length xs) ≡ Some y
get_after [] y ys = refl
get_after (x ∷ xs) y ys = get_after xs y ys

pub items_after : {I : Type 0} (ys xs : List I) → items_at (xs ++ ys) (places_from (length xs) (length ys)) ≡ ys
items_after [] xs = refl
items_after (y ∷ ys) xs =
    let same : (xs ++ y ∷ []) ++ ys ≡ xs ++ y ∷ ys = append_assoc xs (y ∷ []) ys in
    let long : length (xs ++ y ∷ []) ≡ suc (length xs) = omega (arith, length-append xs (y ∷ [])) in
    let rest : items_at (xs ++ y ∷ ys) (places_from (suc (length xs)) (length ys)) ≡ ys = subst (λ (z : _ × ℕ). items_at z.0 (places_from z.1 (length ys)) ≡ ys) (λ i. (same i, long i)) (items_after ys (xs ++ y ∷ [])) in
    (λ i. listed (get_after xs y ys i) ++ rest i)

module _ {B O I : Type 0} (opening : B → O) (journal : B → List I) (legal : O → List I → Type 0) where
  first_fits : (o : O) (start : List I) → ViewRule o start start 0 0 (λ _. 0) 0 (opened o start)
  first_fits o start = record {
    from = refl;
    turn = λ t. absurd (off t);
    has_turn = λ _ z. absurd (omega arith);
    read = λ t. absurd (off t);
    has_read = λ _ z. absurd (omega arith);
    whole = λ t. absurd (off t);
    seen = prefix_self start;
    begun = prefix_self start;
    made = λ k h. absurd (off h);
    ascending = tt;
    left = (start, refl);
    right = (start, refl);
    apart = λ k h. absurd (off h);
  }

  only_first : (P : ℕ → View O I → Type 0) (w : View O I) → P 0 w → (j : ℕ) (u : View O I) → get_elem? (w ∷ []) j ≡ some u → P j u
  only_first P w p zero u e = subst (P 0) (some-injective w u e) p
  only_first P w p (suc j) u e = absurd (some-ne-none u (sym e))

  pub opens : (b : B) → legal (opening b) (journal b) → TurnRule opening journal legal b (begun_at (0 ∷ length (journal b) ∷ []) (Some b ∷ []) (opened (opening b) (journal b)))
  opens b lawful =
      let w : View O I = opened (opening b) (journal b) in
      let live : IsLive w = λ e. absurd (cc (e)) in
      record {
        log = journal b;
        who = 0;
        phase = 0;
        owner = λ _. 0;
        words = refl;
        slots = refl;
        home = λ _. record { book = b; there = refl; same = refl; all = refl };
        lawful = lawful;
        holder = λ z. absurd (omega arith);
        each = only_first (λ j u. IsLive u → ViewRule (opening b) (journal b) (journal b) 0 0 (λ _. 0) j u) w (λ _. first_fits (opening b) (journal b));
        covered = λ k low high. absurd (omega arith);
        naming = record {
          given = [] ∷ [];
          keeper = λ _. 0;
          root = refl;
          closed = λ n k e. absurd (off (sym (no_child n k) ∙ e));
          kept = λ n e. (w, refl, live, e);
          tagged = only_first (λ j u. IsLive u → TagsRule ([] ∷ []) (λ _. 0) j u.tags) w (λ _. record {
            own = refl;
            few = λ k e. absurd (off e);
            many = λ k low high. absurd (omega arith);
            named = λ n e. (e, refl);
            out_only = λ n e. absurd (off e);
            out_all = λ n g lacks child. absurd (off (sym lacks ∙ g));
          });
        };
      }
    where
      no_child : (n : Name) (k : ℕ) → knows (n ++ k ∷ []) ([] ∷ []) ≡ false
      no_child [] k = refl
      no_child (x ∷ xs) k = refl

  -- once no other pass is left, the book is back, with what the pass has seen
  pub closes : (key : B) (s : State (Option B) (View O I)) (seat : ℕ) (v : View O I) → TurnRule opening journal legal key s → get_elem? s.views seat ≡ some v → IsLive v → v.has_turn ≡ false → v.tags.name ≡ [] → v.tags.out ≡ []
      → IsHome opening journal legal key v.seen s.homes × (v.seen ≡ journal key ++ items_at v.seen v.made) × (v.made ≡ places_from (length (journal key)) (length v.seen - length (journal key)))
  closes key s seat v h at live idle root nothing =
      let start : List I = journal key in
      let f : ViewRule (opening key) start h.log h.who h.phase h.owner seat v = h.each seat v at live in
      let only = alone s.views seat v at live root nothing h.naming in
      let free : h.phase ≢ 2 = λ two.
      let x = h.holder (omega arith) in
      off (sym idle ∙ f.has_turn (sym (only h.who x.0 x.1 x.2)) (omega arith)) in
      let mine : (k : ℕ) → length start ≤ k → k < length h.log → has k v.made ≡ true = λ k low high.
      let c = h.covered k low high in
      let e : h.owner k ≡ seat = only (h.owner k) c.0 c.1 c.2 in
      let same : c.0 ≡ v = some-injective _ _ (sym c.1 ∙ ap (λ (j : ℕ). get_elem? s.views j) e ∙ at) in
      ap (λ (u : View O I). has k u.made) (sym same) ∙ c.3 in
      let low : length start ≤ length v.seen = prefix_length start v.seen f.begun in
      let long : length h.log ≤ length v.seen = dite (native.Mathlib.Decide.dec_le (length h.log) (length v.seen)) (λ (y : length h.log ≤ length v.seen). y)
      (λ (n : (length h.log ≤ length v.seen) → ⊥).
      let m = (f.made (length v.seen) (mine (length v.seen) low (omega arith))).2 in absurd (omega (arith, m))) in
      let whole : v.seen ≡ h.log = prefix_whole v.seen h.log f.seen long in
      let x : IsHome opening journal legal key h.log s.homes = h.home free in
      let rest : List I = f.begun.0 in
      let is : start ++ rest ≡ v.seen = f.begun.1 in
      let size : length start + length rest ≡ length v.seen = sym (length-append start rest) ∙ ap length is in
      let made : v.made ≡ places_from (length start) (length rest) = all_places (length rest) (length start) v.made f.ascending
      (λ k y. let m = f.made k y in (m.1, omega (arith, m.2, size)))
      (λ k l r. mine k l (omega (arith, r, size, ap length whole))) in (
        record { book = x.book; there = x.there; same = x.same; all = x.all ∙ sym whole },
        sym is ∙ ap (λ (l : List I). start ++ l) (sym (items_after rest start) ∙ (λ i. items_at (is i) (sym made i))),
        made ∙ ap (λ (n : ℕ). places_from (length start) n) (omega (arith, size)),
      )

pub back : {B : Type 0} (xs : List (Option B)) (homes : List (mathlib.Core.Option.Option (Option B))) (book : B) (held : Option B) → homes ≡ some (Some book) ∷ []
    → ((k : ℕ) (y : Option B) → get_elem? homes k ≡ some (some y) → get_elem? xs k ≡ some y) → get_elem? xs 0 ≡ some held → held ≡ Some book
back {B} xs homes book held there kept is = some-injective _ _ (sym is ∙ kept 0 (Some book) (ap (λ (l : List (mathlib.Core.Option.Option (Option B))). get_elem? l 0) there))

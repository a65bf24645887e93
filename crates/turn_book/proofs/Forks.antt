-- A split and a join keep the rule.
use Rattle.std.proofs.Common.{◌≡◌, ◌≢◌, ℕ, ◌<◌, ◌≤◌, ◌==◌, Bool, true, false, List, [], ◌∷◌, length, set, Option, refl, sym, ap, ◌∙◌, subst, ⊎_elim, inl, inr, arith, length-set, cond, nat_lt, eq-eqb, ne_eqb}
use Rattle.std.specs.Prelude.{slice_index}
use Rattle.std.proofs.lemmas.Bool.Decides.{nat_tests}
use mathlib.Core.Option.{some, none, some-injective}
use mathlib.Core.Logic.{dite}
use mathlib.Core.List.{IsPrefix}
use native.Mathlib.Decide.{ℕ_discrete}
use lib.ListN.{get_elem?}
use Rattle.atomic_table.specs.Table.{Me, keeps, step, Allows, Splits, Joins}
use Rattle.atomic_table.proofs.Lists.{set_again, set_here, set_else, at_longer}
use Rattle.turn_book.specs.declared.view.View.{View}
use Rattle.turn_book.specs.Places.{has}
use Rattle.turn_book.specs.Knowing.{IsLive, split_left, split_right, longer, joined, spent, AreNested}
use Rattle.turn_book.specs.Rule.{ViewRule, HasPlace, TurnRule, tells_rule}
use Rattle.turn_book.proofs.Bools.{off, refute}
use Rattle.turn_book.proofs.Prefixes.{prefix_shorter}
use Rattle.turn_book.proofs.Places.{has_merge, merge_has, ascends_merge}
use Rattle.turn_book.proofs.Views.{within, each_set, covers_set}
use Rattle.turn_book.proofs.Naming.{at_end, naming_split, naming_join}

pub longer_cases : {I : Type 0} (xs ys : List I) (P : List I → Type 0) → (length ys ≤ length xs → P xs) → (length xs ≤ length ys → P ys) → P (longer xs ys)
longer_cases xs ys P one two = go (nat_lt (length xs) (length ys)) refl
  where
    go : (b : Bool) → nat_lt (length xs) (length ys) ≡ b → P (cond b ys xs)
    go true e = two (grind (arith, nat_tests))
    go false e = one (grind (arith, nat_tests))

module _ {B O I : Type 0} (opening : B → O) (journal : B → List I) (legal : O → List I → Type 0) (key : B) where
  -- the seat that has the turn still has a live view
  stands : (views : List (View O I)) (i : ℕ) (v w : View O I) (at : ℕ) → get_elem? views i ≡ some v → IsLive w → (u : View O I) × (get_elem? views at ≡ some u) × IsLive u → (u : View O I) × (get_elem? (set views i w) at ≡ some u) × IsLive u
  stands views i v w at there live c = dite (ℕ_discrete at i)
      (λ (e : at ≡ i). (w, ap (λ (n : ℕ). get_elem? (set views i w) n) e ∙ set_here views i w (within views i v there), live))
      (λ (ne : at ≢ i). (c.0, set_else views i at w ne ∙ c.1, c.2))

  pub splits_allowed : (seat : ℕ) (v : View O I) → IsLive v → Splits (TurnRule opening journal legal key) seat v (split_left v) (split_right v)
  splits_allowed seat v live s h at =
      let o : O = opening key in
      let start : List I = journal key in
      let left : View O I = split_left v in
      let right : View O I = split_right v in
      let f : ViewRule o start h.log h.who h.phase h.owner seat v = h.each seat v at live in
      let long : length (set s.views seat left) ≡ length s.views = length-set s.views seat left in
      let not_new : 0 < h.phase → length s.views ≢ h.who = λ p e. let x = h.holder p in let lt : h.who < length s.views = within s.views h.who x.0 x.1 in omega arith in
      record {
        log = h.log;
        who = h.who;
        phase = h.phase;
        owner = h.owner;
        words = h.words;
        slots = h.slots;
        home = h.home;
        lawful = h.lawful;
        holder = λ p. let x = stands s.views seat v left h.who at live (h.holder p) in (x.0, at_longer (set s.views seat left) (right ∷ []) h.who x.0 x.1, x.2);
        each = λ j u e up. ⊎_elim
            (λ (e : get_elem? (set s.views seat left) j ≡ some u).
            each_set (λ j u. IsLive u → ViewRule o start h.log h.who h.phase h.owner j u) s.views seat left
            (λ j u _ e up. h.each j u e up)
            (λ _. record {
              from = f.from;
              turn = f.turn;
              has_turn = f.has_turn;
              read = f.read;
              has_read = f.has_read;
              whole = f.whole;
              seen = f.seen;
              begun = f.begun;
              made = f.made;
              ascending = f.ascending;
              left = f.left;
              right = f.right;
              apart = f.apart;
            })
            j u e up)
            (λ (e : (j ≡ length (set s.views seat left)) × (right ≡ u)).
            subst (λ (y : ℕ × View O I). ViewRule o start h.log h.who h.phase h.owner y.0 y.1) (λ k. (sym (e.0 ∙ long) k, e.1 k)) (record {
              from = f.from;
              turn = λ t. absurd (off t);
              has_turn = λ x p. absurd (not_new p x);
              read = λ t. absurd (off t);
              has_read = λ x two. absurd (not_new (omega arith) x);
              whole = λ t. absurd (off t);
              seen = f.seen;
              begun = f.begun;
              made = λ k t. absurd (off t);
              ascending = tt;
              left = (h.log, refl);
              right = (h.log, refl);
              apart = λ k t. absurd (off t);
            }))
            (at_end (set s.views seat left) right u j e);
        covered = λ k low high. let x = covers_set s.views seat v left (h.owner k) k at live (λ y. y) (h.covered k low high) in (x.0, at_longer (set s.views seat left) (right ∷ []) (h.owner k) x.0 x.1, x.2, x.3);
        naming = naming_split s.views seat v at live h.naming;
      }

  pub joins_allowed : (seat : ℕ) (v : View O I) (other : ℕ) (w : View O I) → IsLive v → IsLive w → v.has_read ≡ false → w.has_turn ≡ false
      → Joins (TurnRule opening journal legal key) seat v other w (joined v w) spent
  joins_allowed seat v other w live alive unread idle s h at apart beside_set =
      let o : O = opening key in
      let start : List I = journal key in
      let both : View O I = joined v w in
      let now : List (View O I) = set (set s.views seat both) other spent in
      let beside : get_elem? s.views other ≡ some w = sym (set_else s.views seat other both apart) ∙ beside_set in
      let f : ViewRule o start h.log h.who h.phase h.owner seat v = h.each seat v at live in
      let g : ViewRule o start h.log h.who h.phase h.owner other w = h.each other w beside alive in
      let owner : ℕ → ℕ = λ k. cond (h.owner k == other) seat (h.owner k) in
      let stays : (k j : ℕ) → h.owner k ≡ j → j ≢ other → owner k ≡ j = λ k j e ne. ap (λ (b : Bool). cond b seat (h.owner k)) (ne_eqb (h.owner k) other (λ x. ne (sym e ∙ x))) ∙ e in
      let moves : (k : ℕ) → h.owner k ≡ other → owner k ≡ seat = λ k e. ap (λ (b : Bool). cond b seat (h.owner k)) (eq-eqb (h.owner k) other e) in
      let here : get_elem? now seat ≡ some both = set_else (set s.views seat both) other seat spent (λ e. apart (sym e)) ∙ set_here s.views seat both (within s.views seat v at) in
      let not_theirs : 0 < h.phase → h.who ≢ other = λ p e. off (sym idle ∙ g.has_turn (sym e) p) in
      let disjoint : (k : ℕ) → has k v.made ≡ true → has k w.made ≡ true → ⊥ = λ k a b. apart (sym (g.made k b).0 ∙ (f.made k a).0) in
      record {
        log = h.log;
        who = h.who;
        phase = h.phase;
        owner = owner;
        words = h.words;
        slots = h.slots;
        home = h.home;
        lawful = h.lawful;
        holder = λ p. let x = stands s.views seat v both h.who at live (h.holder p) in (x.0, set_else (set s.views seat both) other h.who spent (not_theirs p) ∙ x.1, x.2);
        each = λ j u e up. each_set (λ j u. IsLive u → ViewRule o start h.log h.who h.phase owner j u) (set s.views seat both) other spent
            (λ j u ne e up. each_set (λ j u. j ≢ other → IsLive u → ViewRule o start h.log h.who h.phase owner j u) s.views seat both
            (λ j u _ e ne up.
            let x : ViewRule o start h.log h.who h.phase h.owner j u = h.each j u e up in record {
              from = x.from;
              turn = x.turn;
              has_turn = x.has_turn;
              read = x.read;
              has_read = x.has_read;
              whole = x.whole;
              seen = x.seen;
              begun = x.begun;
              made = λ k m. let y = x.made k m in (stays k j y.0 ne, y.1, y.2);
              ascending = x.ascending;
              left = x.left;
              right = x.right;
              apart = x.apart;
            })
            (λ _ _. record {
              from = f.from;
              turn = f.turn;
              has_turn = f.has_turn;
              read = f.read;
              has_read = f.has_read;
              whole = λ t. absurd (off (sym unread ∙ t));
              seen = longer_cases v.seen w.seen (λ l. IsPrefix l h.log) (λ _. f.seen) (λ _. g.seen);
              begun = longer_cases v.seen w.seen (λ l. IsPrefix start l) (λ _. f.begun) (λ _. g.begun);
              made = λ k m. ⊎_elim
                  (λ (y : has k v.made ≡ true). let z = f.made k y in (stays k seat z.0 (λ x. apart (sym x)), z.1, longer_cases v.seen w.seen (λ l. k < length l) (λ _. z.2) (λ le. omega (arith, z.2, le))))
                  (λ (y : has k w.made ≡ true). let z = g.made k y in (moves k z.0, z.1, longer_cases v.seen w.seen (λ l. k < length l) (λ le. omega (arith, z.2, le)) (λ _. z.2)))
                  (has_merge k v.made w.made m);
              ascending = ascends_merge v.made w.made f.ascending g.ascending disjoint;
              left = f.seen;
              right = g.seen;
              apart = λ k a. refute (has k w.made) (disjoint k a);
            })
            j u e ne up)
            (λ dead. absurd (dead refl))
            j u e up;
        covered = λ k low high.
            let c : HasPlace s.views (h.owner k) k = h.covered k low high in
            dite (ℕ_discrete (h.owner k) other)
            (λ (e : h.owner k ≡ other).
            let same : c.0 ≡ w = some-injective _ _ (sym c.1 ∙ ap (λ (j : ℕ). get_elem? s.views j) e ∙ beside) in
            (both, ap (λ (j : ℕ). get_elem? now j) (moves k e) ∙ here, live, merge_has k v.made w.made (inr (ap (λ (u : View O I). has k u.made) (sym same) ∙ c.3))))
            (λ (ne : h.owner k ≢ other).
            let x = covers_set s.views seat v both (h.owner k) k at live (λ y. merge_has k v.made w.made (inl y)) c in
            subst (λ (j : ℕ). HasPlace now j k) (sym (stays k (h.owner k) refl ne)) (x.0, set_else (set s.views seat both) other (h.owner k) spent ne ∙ x.1, x.2, x.3));
        naming = naming_join s.views seat v other w at live apart beside alive h.naming;
      }

  nested : (xs ys log : List I) → IsPrefix xs log → IsPrefix ys log → AreNested xs ys
  nested xs ys log p q = go (nat_lt (length ys) (length xs)) refl
    where
      go : (b : Bool) → nat_lt (length ys) (length xs) ≡ b → AreNested xs ys
      go true e = inr (prefix_shorter ys xs log q p (grind (arith, nat_tests)))
      go false e = inl (prefix_shorter xs ys log p q (grind (arith, nat_tests)))

  -- a pass learns what the rule says of it, where each beginning of a legal history is legal
  pub tells_allowed : ((o : O) (xs ys : List I) → IsPrefix xs ys → legal o ys → legal o xs) → (n seat : ℕ) (m : Me (Option B) (View O I)) → IsLive m.0
      → Allows (TurnRule opening journal legal key) n seat m 0 (λ x. x) (tells_rule legal (step n 0 0 0 none) m)
  tells_allowed shorter n seat m live s h wide at small =
      let f : ViewRule (opening key) (journal key) h.log h.who h.phase h.owner seat m.0 = h.each seat m.0 at live in
      let same : set s.words 0 (slice_index s.words 0) ≡ s.words = ap (λ (l : List ℕ). set l 0 (slice_index l 0)) h.words ∙ sym h.words in
      let lawful : legal (opening key) m.0.seen = shorter (opening key) m.0.seen h.log f.seen h.lawful in (
        m.0,
        keeps,
        tt,
        subst (TurnRule opening journal legal key) (λ i. record { words = sym same i; homes = s.homes; views = sym (set_again s.views seat m.0 at) i }) h,
        record {
          after = refl;
          sound = record { ascending = f.ascending; within = λ k y. (f.made k y).2 };
          lawful = λ o from. subst (λ (p : O). legal p m.0.seen) (cc (f.from, from)) lawful;
          nested = nested m.0.tags.left m.0.tags.right h.log f.left f.right;
          apart = f.apart;
        },
      )

-- How the parts of the rule that speak of views go on.
use Rattle.std.proofs.Common.{◌≡◌, ◌≢◌, ℕ, zero, suc, ◌<◌, ◌≤◌, true, List, [], ◌∷◌, length, set, None, sym, ap, ◌∙◌, subst, ⊎_elim, arith}
use mathlib.Core.Option.{some, some-injective, some-ne-none}
use mathlib.Core.Logic.{dite}
use mathlib.Core.List.{IsPrefix}
use native.Mathlib.Decide.{ℕ_discrete}
use lib.ListN.{get_elem?}
use Rattle.atomic_table.proofs.Lists.{at_set, set_here, set_else}
use Rattle.turn_book.specs.declared.view.View.{View}
use Rattle.turn_book.specs.Names.{Name, knows}
use Rattle.turn_book.specs.Places.{has}
use Rattle.turn_book.specs.Knowing.{IsLive}
use Rattle.turn_book.specs.Rule.{ViewRule, HasPlace, HasName, TagsRule, NamesRule}
use Rattle.turn_book.specs.declared.view.Tags.{Tags}
use Rattle.turn_book.proofs.Prefixes.{prefix_trans, prefix_length}

pub within : {A : Type 0} (l : List A) (i : ℕ) (a : A) → get_elem? l i ≡ some a → i < length l
within [] i a e = absurd (some-ne-none a (sym e))
within (x ∷ xs) zero a e = omega arith
within (x ∷ xs) (suc i) a e = omega (arith, within xs i a e)

module _ {O I : Type 0} where
  pub each_set : (P : ℕ → View O I → Type 0) (views : List (View O I)) (i : ℕ) (w : View O I)
      → ((j : ℕ) (u : View O I) → j ≢ i → get_elem? views j ≡ some u → P j u) → P i w
      → (j : ℕ) (u : View O I) → get_elem? (set views i w) j ≡ some u → P j u
  each_set P views i w others mine j u e =
      ⊎_elim
      (λ (t : (j ≡ i) × (w ≡ u)). subst (λ (y : ℕ × View O I). P y.0 y.1) (λ k. (sym t.0 k, t.1 k)) mine)
      (λ (t : (j ≢ i) × (get_elem? views j ≡ some u)). others j u t.0 t.1)
      (at_set views i j w u e)

  -- a view that keeps its places_from still has them
  pub covers_set : (views : List (View O I)) (i : ℕ) (v w : View O I) (at k : ℕ) → get_elem? views i ≡ some v → IsLive w → (has k v.made ≡ true → has k w.made ≡ true)
      → HasPlace views at k → HasPlace (set views i w) at k
  covers_set views i v w at k there live more c =
      dite (ℕ_discrete at i)
      (λ (e : at ≡ i).
      let same : c.0 ≡ v = some-injective _ _ (sym c.1 ∙ ap (λ (n : ℕ). get_elem? views n) e ∙ there) in
      (w, ap (λ (n : ℕ). get_elem? (set views i w) n) e ∙ set_here views i w (within views i v there), live, more (ap (λ (u : View O I). has k u.made) (sym same) ∙ c.3)))
      (λ (ne : at ≢ i). (c.0, set_else views i at w ne ∙ c.1, c.2, c.3))

  -- a view that has not the turn, whoever has it then
  pub refits : (o : O) (start log log' : List I) (who phase who' phase' : ℕ) (owner owner' : ℕ → ℕ) (j : ℕ) (u : View O I)
      → ((j ≡ who) × (0 < phase) → ⊥) → (j ≡ who' → 0 < phase' → ⊥) → IsPrefix log log' → ((k : ℕ) → k < length log → owner' k ≡ owner k)
      → ViewRule o start log who phase owner j u → ViewRule o start log' who' phase' owner' j u
  refits o start log log' who phase who' phase' owner owner' j u quiet other longer same f = record {
    from = f.from;
    turn = λ t. absurd (quiet (f.turn t));
    has_turn = λ e p. absurd (other e p);
    read = λ r. let x = f.read r in absurd (quiet (x.0, omega arith));
    has_read = λ e p. absurd (other e (omega arith));
    whole = λ r. let x = f.read r in absurd (quiet (x.0, omega arith));
    seen = prefix_trans u.seen log log' f.seen longer;
    begun = f.begun;
    made = λ k h. let m = f.made k h in (same k (let le : length u.seen ≤ length log = prefix_length u.seen log f.seen in omega arith) ∙ m.0, m.1, m.2);
    ascending = f.ascending;
    left = prefix_trans u.tags.left log log' f.left longer;
    right = prefix_trans u.tags.right log log' f.right longer;
    apart = f.apart;
  }

  pub keeps_set : (views : List (View O I)) (i : ℕ) (v w : View O I) (at : ℕ) (n : Name) → get_elem? views i ≡ some v → IsLive w → (knows n v.tags.names ≡ true → knows n w.tags.names ≡ true)
      → HasName views at n → HasName (set views i w) at n
  keeps_set views i v w at n there live more c =
      dite (ℕ_discrete at i)
      (λ (e : at ≡ i).
      let same : c.0 ≡ v = some-injective _ _ (sym c.1 ∙ ap (λ (k : ℕ). get_elem? views k) e ∙ there) in
      (w, ap (λ (k : ℕ). get_elem? (set views i w) k) e ∙ set_here views i w (within views i v there), live, more (ap (λ (u : View O I). knows n u.tags.names) (sym same) ∙ c.3)))
      (λ (ne : at ≢ i). (c.0, set_else views i at w ne ∙ c.1, c.2, c.3))

  -- a step that leaves the names
  pub naming_set : (views : List (View O I)) (i : ℕ) (v w : View O I) → get_elem? views i ≡ some v → IsLive v → w.tags ≡ v.tags → w.from ≡ v.from → NamesRule views → NamesRule (set views i w)
  naming_set views i v w there live same from h =
      let alive : IsLive w = λ (e : w.from ≡ None). live (sym from ∙ e) in record {
        given = h.given;
        keeper = h.keeper;
        root = h.root;
        closed = h.closed;
        kept = λ n is. keeps_set views i v w (h.keeper n) n there alive (λ k. ap (λ (t : Tags I). knows n t.names) same ∙ k) (h.kept n is);
        tagged = each_set (λ j u. IsLive u → TagsRule h.given h.keeper j u.tags) views i w (λ j u _ e l. h.tagged j u e l) (λ _. subst (TagsRule h.given h.keeper i) (sym same) (h.tagged i v there live));
      }

-- Names of passes, and how a split and a join keep what the rule says of them.
use Rattle.std.proofs.Common.{◌≡◌, ◌≢◌, ℕ, zero, suc, ◌+◌, ◌==◌, ◌&&◌, Bool, true, false, List, [], ◌∷◌, ◌++◌, length, set, refl, sym, ap, ◌∙◌, subst, ⊎_elim, ◌⊎◌, inl, inr, arith, length-append, append_assoc, cond, eq-eqb, ne_eqb, length-set}
use Rattle.std.proofs.lemmas.Bool.Decides.{nat_tests}
use Rattle.std.proofs.lemmas.List.{append-nil}
use mathlib.Core.Option.{some}
use mathlib.Core.Logic.{dite}
use native.Mathlib.Decide.{ℕ_discrete}
use lib.ListN.{get_elem?}
use Rattle.atomic_table.proofs.Lists.{set_here, set_else, at_longer, at_last}
use Rattle.turn_book.specs.declared.view.View.{View}
use Rattle.turn_book.specs.declared.view.Tags.{Tags}
use Rattle.turn_book.specs.Names.{Name, same_name, knows, without}
use Rattle.turn_book.specs.Knowing.{IsLive, next_name, split_left, split_right, joined, spent}
use Rattle.turn_book.specs.Rule.{HasName, TagsRule, NamesRule}
use Rattle.turn_book.proofs.Bools.{off, or_left, or_right, or_cases, decide, refute}
use Rattle.turn_book.proofs.Views.{within, each_set, keeps_set}

pub same_name-refl : (n : Name) → same_name n n ≡ true
same_name-refl [] = refl
same_name-refl (x ∷ xs) = ap (λ (b : Bool). b && same_name xs xs) (eq-eqb x x refl) ∙ same_name-refl xs

and_both : (a b : Bool) → (a && b) ≡ true → (a ≡ true) × (b ≡ true)
and_both true b e = (refl, e)
and_both false b e = absurd (off e)

pub same_name-eq : (n m : Name) → same_name n m ≡ true → n ≡ m
same_name-eq [] [] e = refl
same_name-eq [] (y ∷ ys) e = absurd (off e)
same_name-eq (x ∷ xs) [] e = absurd (off e)
same_name-eq (x ∷ xs) (y ∷ ys) e = let b = and_both (x == y) (same_name xs ys) e in let first : x ≡ y = grind (arith, nat_tests, b.0) in λ i. first i ∷ same_name-eq xs ys b.1 i

pub knows-append : (n : Name) (xs ys : List Name) → knows n (xs ++ ys) ≡ true → (knows n xs ≡ true) ⊎ (knows n ys ≡ true)
knows-append n [] ys e = inr e
knows-append n (x ∷ xs) ys e =
    ⊎_elim
    (λ (h : same_name n x ≡ true). inl (or_left _ _ h))
    (λ (h : knows n (xs ++ ys) ≡ true). ⊎_elim (λ (l : knows n xs ≡ true). inl (or_right (same_name n x) _ l)) (λ (r : knows n ys ≡ true). inr r) (knows-append n xs ys h))
    (or_cases (same_name n x) (knows n (xs ++ ys)) e)

pub knows-front : (n : Name) (xs ys : List Name) → knows n xs ≡ true → knows n (xs ++ ys) ≡ true
knows-front n [] ys e = absurd (off e)
knows-front n (x ∷ xs) ys e = ⊎_elim (λ (h : same_name n x ≡ true). or_left _ _ h) (λ (h : knows n xs ≡ true). or_right (same_name n x) _ (knows-front n xs ys h)) (or_cases _ _ e)

pub knows-back : (n : Name) (xs ys : List Name) → knows n ys ≡ true → knows n (xs ++ ys) ≡ true
knows-back n [] ys e = e
knows-back n (x ∷ xs) ys e = or_right (same_name n x) _ (knows-back n xs ys e)

pub knows-self : (n : Name) (ms : List Name) → knows n (n ∷ ms) ≡ true
knows-self n ms = or_left _ _ (same_name-refl n)

-- what is known of a name is known of it by another spelling
pub knows-one : (n m : Name) → knows n (m ∷ []) ≡ true → n ≡ m
knows-one n m e = ⊎_elim (λ (h : same_name n m ≡ true). same_name-eq n m h) (λ (h : false ≡ true). absurd (off h)) (or_cases (same_name n m) false e)

pub snoc_inj : (p q : Name) (j k : ℕ) → p ++ j ∷ [] ≡ q ++ k ∷ [] → (p ≡ q) × (j ≡ k)
snoc_inj [] [] j k e = (refl, cc)
snoc_inj [] (y ∷ []) j k e = absurd (cc)
snoc_inj [] (y ∷ z ∷ ys) j k e = absurd (cc)
snoc_inj (x ∷ []) [] j k e = absurd (cc)
snoc_inj (x ∷ w ∷ xs) [] j k e = absurd (cc)
snoc_inj (x ∷ xs) (y ∷ ys) j k e = let tail : xs ++ j ∷ [] ≡ ys ++ k ∷ [] = cc in let head : x ≡ y = cc in let r = snoc_inj xs ys j k tail in ((λ i. head i ∷ r.0 i), r.1)

pub never_longer : (n : Name) (k : ℕ) → n ++ k ∷ [] ≡ n → ⊥
never_longer n k e = let l : length (n ++ k ∷ []) ≡ length n = ap length e in omega (arith, l, length-append n (k ∷ []))

pub at_end : {A : Type 0} (l : List A) (a b : A) (j : ℕ) → get_elem? (l ++ a ∷ []) j ≡ some b → (get_elem? l j ≡ some b) ⊎ ((j ≡ length l) × (a ≡ b))
at_end [] a b zero e = inr (refl, mathlib.Core.Option.some-injective a b e)
at_end [] a b (suc j) e = absurd (mathlib.Core.Option.some-ne-none b (sym e))
at_end (x ∷ xs) a b zero e = inl e
at_end (x ∷ xs) a b (suc j) e = ⊎_elim (λ (h : get_elem? xs j ≡ some b). inl h) (λ (h : (j ≡ length xs) × (a ≡ b)). inr (ap suc h.0, h.1)) (at_end xs a b j e)

module _ {O I : Type 0} where
  pub naming_split : (views : List (View O I)) (i : ℕ) (v : View O I) → get_elem? views i ≡ some v → IsLive v → NamesRule views → NamesRule (set views i (split_left v) ++ split_right v ∷ [])
  naming_split views i v there live h =
      let t : Tags I = v.tags in
      let p : Name = t.name in
      let q : Name = next_name t in
      let new : ℕ = length views in
      let given : List Name = q ∷ h.given in
      let keeper : Name → ℕ = λ n. cond (same_name n q) new (h.keeper n) in
      let long : length (set views i (split_left v)) ≡ new = length-set views i (split_left v) in
      let T : TagsRule h.given h.keeper i t = h.tagged i v there live in
      let p_given : knows p h.given ≡ true = (T.named p T.own).0 in
      let p_mine : h.keeper p ≡ i = (T.named p T.own).1 in
      let fresh : knows q h.given ≡ true → ⊥ = λ e. let b = T.few (t.splits + 1) e in omega (arith, b.1) in
      let later : (n : Name) → knows n h.given ≡ true → knows n given ≡ true = λ n e. or_right (same_name n q) _ e in
      let other : (n : Name) → knows n h.given ≡ true → keeper n ≡ h.keeper n = λ n e. ap (λ (b : Bool). cond b new (h.keeper n)) (refute (same_name n q) (λ s. fresh (subst (λ (m : Name). knows m h.given ≡ true) (same_name-eq n q s) e))) in
      let mine : keeper q ≡ new = ap (λ (b : Bool). cond b new (h.keeper q)) (same_name-refl q) in
      let no_grandchild : (k : ℕ) → knows (q ++ k ∷ []) given ≡ true → ⊥ = λ k e. ⊎_elim (λ (s : same_name (q ++ k ∷ []) q ≡ true). never_longer q k (same_name-eq _ _ s)) (λ (g : knows (q ++ k ∷ []) h.given ≡ true). fresh (h.closed q k g)) (or_cases (same_name (q ++ k ∷ []) q) _ e) in
      record {
        given = given;
        keeper = keeper;
        root = later [] h.root;
        closed = λ n k e. ⊎_elim
            (λ (s : same_name (n ++ k ∷ []) q ≡ true). later n (subst (λ (m : Name). knows m h.given ≡ true) (sym (snoc_inj n p k (t.splits + 1) (same_name-eq _ _ s)).0) p_given))
            (λ (g : knows (n ++ k ∷ []) h.given ≡ true). later n (h.closed n k g))
            (or_cases (same_name (n ++ k ∷ []) q) _ e);
        kept = λ n e. ⊎_elim
            (λ (s : same_name n q ≡ true).
            let is : n ≡ q = same_name-eq n q s in
            subst (λ (m : Name). HasName (set views i (split_left v) ++ split_right v ∷ []) (keeper m) m) (sym is)
            (split_right v, ap (λ (k : ℕ). get_elem? (set views i (split_left v) ++ split_right v ∷ []) k) mine ∙ at_last (set views i (split_left v)) (split_right v) new long, live, knows-self q []))
            (λ (g : knows n h.given ≡ true).
            let k = keeps_set views i v (split_left v) (h.keeper n) n there live (λ x. x) (h.kept n g) in
            subst (λ (j : ℕ). HasName (set views i (split_left v) ++ split_right v ∷ []) j n) (sym (other n g)) (k.0, at_longer (set views i (split_left v)) (split_right v ∷ []) (h.keeper n) k.0 k.1, k.2, k.3))
            (or_cases (same_name n q) _ e);
        tagged = λ j u e alive. ⊎_elim
            (λ (at : get_elem? (set views i (split_left v)) j ≡ some u).
            each_set (λ j u. IsLive u → TagsRule given keeper j u.tags) views i (split_left v)
            (λ j u ne e alive.
            let U : TagsRule h.given h.keeper j u.tags = h.tagged j u e alive in
            let not_p : knows p u.tags.names ≡ true → ⊥ = λ k. ne (sym (U.named p k).1 ∙ p_mine) in
            record {
              own = U.own;
              few = λ k g. ⊎_elim
                  (λ (s : same_name (u.tags.name ++ k ∷ []) q ≡ true). absurd (not_p (subst (λ (m : Name). knows m u.tags.names ≡ true) (snoc_inj _ _ _ _ (same_name-eq _ _ s)).0 U.own)))
                  (λ (x : knows (u.tags.name ++ k ∷ []) h.given ≡ true). U.few k x)
                  (or_cases (same_name (u.tags.name ++ k ∷ []) q) _ g);
              many = λ k low high. later _ (U.many k low high);
              named = λ n k. let x = U.named n k in (later n x.0, other n x.0 ∙ x.1);
              out_only = λ n k. let x = U.out_only n k in (later n x.0, x.1, x.2);
              out_all = λ n g lacks child. ⊎_elim
                  (λ (s : same_name n q ≡ true). absurd (not_p (subst (λ (m : Name). knows m u.tags.names ≡ true) (snoc_inj _ _ _ _ (sym child.2 ∙ same_name-eq n q s)).0 child.3)))
                  (λ (x : knows n h.given ≡ true). U.out_all n x lacks child)
                  (or_cases (same_name n q) _ g);
            })
            (λ _. record {
              own = T.own;
              few = λ k g. ⊎_elim
                  (λ (s : same_name (p ++ k ∷ []) q ≡ true). let is : k ≡ t.splits + 1 = (snoc_inj p p k (t.splits + 1) (same_name-eq _ _ s)).1 in (omega arith, omega arith))
                  (λ (x : knows (p ++ k ∷ []) h.given ≡ true). let b = T.few k x in (b.0, omega (arith, b.1)))
                  (or_cases (same_name (p ++ k ∷ []) q) _ g);
              many = λ k low high. dite (ℕ_discrete k (t.splits + 1))
                  (λ (is : k ≡ t.splits + 1). subst (λ (m : ℕ). knows (p ++ m ∷ []) given ≡ true) (sym is) (knows-self q h.given))
                  (λ (ne : k ≢ t.splits + 1). later _ (T.many k low (omega arith)));
              named = λ n k. let x = T.named n k in (later n x.0, other n x.0 ∙ x.1);
              out_only = λ n k. ⊎_elim
                  (λ (x : knows n t.out ≡ true). let y = T.out_only n x in (later n y.0, y.1, y.2))
                  (λ (x : knows n (q ∷ []) ≡ true).
                  let is : n ≡ q = knows-one n q x in
                  (subst (λ (m : Name). knows m given ≡ true) (sym is) (knows-self q h.given), refute (knows n t.names) (λ y. fresh (subst (λ (m : Name). knows m h.given ≡ true) is (T.named n y).0)), (p, t.splits + 1, is, T.own)))
                  (knows-append n t.out (q ∷ []) k);
              out_all = λ n g lacks child. ⊎_elim
                  (λ (s : same_name n q ≡ true). knows-back n t.out (q ∷ []) (or_left _ _ s))
                  (λ (x : knows n h.given ≡ true). knows-front n t.out (q ∷ []) (T.out_all n x lacks child))
                  (or_cases (same_name n q) _ g);
            })
            j u at alive)
            (λ (end : (j ≡ length (set views i (split_left v))) × (split_right v ≡ u)).
            subst (λ (y : ℕ × View O I). TagsRule given keeper y.0 y.1.tags) (λ k. (sym (end.0 ∙ long) k, end.1 k)) (record {
              own = knows-self q [];
              few = λ k g. absurd (no_grandchild k g);
              many = λ k low high. absurd (omega arith);
              named = λ n k. let is : n ≡ q = knows-one n q k in (subst (λ (m : Name). knows m given ≡ true) (sym is) (knows-self q h.given), ap keeper is ∙ mine);
              out_only = λ n k. absurd (off k);
              out_all = λ n g lacks child. absurd (no_grandchild child.1 (subst (λ (m : Name). knows m given ≡ true) (child.2 ∙ ap (λ (m : Name). m ++ child.1 ∷ []) (knows-one child.0 q child.3)) g));
            }))
            (at_end (set views i (split_left v)) (split_right v) u j e);
      }

without_only : (n m : Name) (names ms : List Name) → (knows n (without names ms) ≡ true → (knows n ms ≡ true) × (knows n names ≡ false))
    → (b : Bool) → knows m names ≡ b → knows n (cond b (without names ms) (m ∷ without names ms)) ≡ true → (knows n (m ∷ ms) ≡ true) × (knows n names ≡ false)
without_only n m names ms ih true is x = let r = ih x in (or_right (same_name n m) _ r.0, r.1)
without_only n m names ms ih false is x = ⊎_elim
    (λ (s : same_name n m ≡ true). (or_left _ _ s, subst (λ (k : Name). knows k names ≡ false) (sym (same_name-eq n m s)) is))
    (λ (y : knows n (without names ms) ≡ true). let r = ih y in (or_right (same_name n m) _ r.0, r.1))
    (or_cases (same_name n m) _ x)

pub without-only : (n : Name) (names ms : List Name) → knows n (without names ms) ≡ true → (knows n ms ≡ true) × (knows n names ≡ false)
without-only n names [] e = absurd (off e)
without-only n names (m ∷ ms) e = without_only n m names ms (without-only n names ms) (knows m names) refl e

without_all : (n m : Name) (names ms : List Name) → (knows n ms ≡ true → knows n (without names ms) ≡ true) → knows n (m ∷ ms) ≡ true → knows n names ≡ false
    → (b : Bool) → knows m names ≡ b → knows n (cond b (without names ms) (m ∷ without names ms)) ≡ true
without_all n m names ms ih e lacks true is = ⊎_elim
    (λ (s : same_name n m ≡ true). absurd (off (sym lacks ∙ subst (λ (k : Name). knows k names ≡ true) (sym (same_name-eq n m s)) is)))
    (λ (x : knows n ms ≡ true). ih x)
    (or_cases (same_name n m) _ e)
without_all n m names ms ih e lacks false is = ⊎_elim
    (λ (s : same_name n m ≡ true). or_left _ _ s)
    (λ (x : knows n ms ≡ true). or_right (same_name n m) _ (ih x))
    (or_cases (same_name n m) _ e)

pub without-all : (n : Name) (names ms : List Name) → knows n ms ≡ true → knows n names ≡ false → knows n (without names ms) ≡ true
without-all n names [] e lacks = absurd (off e)
without-all n names (m ∷ ms) e lacks = without_all n m names ms (λ x. without-all n names ms x lacks) e lacks (knows m names) refl

-- what a name begins with was given too
begins : (given : List Name) → ((n : Name) (k : ℕ) → knows (n ++ k ∷ []) given ≡ true → knows n given ≡ true) → (m p : Name) → knows (p ++ m) given ≡ true → knows p given ≡ true
begins given closed [] p x = subst (λ (n : Name). knows n given ≡ true) (append-nil p) x
begins given closed (k ∷ m) p x = closed p k (begins given closed m (p ++ k ∷ []) (subst (λ (n : Name). knows n given ≡ true) (sym (append_assoc p (k ∷ []) m)) x))

climb : (given names : List Name) → ((n : Name) (k : ℕ) → knows (n ++ k ∷ []) given ≡ true → knows n given ≡ true) → ((p : Name) (k : ℕ) → knows p names ≡ true → knows (p ++ k ∷ []) given ≡ true → knows (p ++ k ∷ []) names ≡ true)
    → (m p : Name) → knows p names ≡ true → knows (p ++ m) given ≡ true → knows (p ++ m) names ≡ true
climb given names closed step [] p had x = subst (λ (n : Name). knows n names ≡ true) (sym (append-nil p)) had
climb given names closed step (k ∷ m) p had x =
    let y : knows ((p ++ k ∷ []) ++ m) given ≡ true = subst (λ (n : Name). knows n given ≡ true) (sym (append_assoc p (k ∷ []) m)) x in
    subst (λ (n : Name). knows n names ≡ true) (append_assoc p (k ∷ []) m) (climb given names closed step m (p ++ k ∷ []) (step p k had (begins given closed m (p ++ k ∷ []) y)) y)

module _ {O I : Type 0} where
  pub naming_join : (views : List (View O I)) (i : ℕ) (v : View O I) (other : ℕ) (w : View O I) → get_elem? views i ≡ some v → IsLive v → other ≢ i → get_elem? views other ≡ some w → IsLive w
      → NamesRule views → NamesRule (set (set views i (joined v w)) other spent)
  naming_join views i v other w there live apart beside alive h =
      let both : View O I = joined v w in
      let names : List Name = v.tags.names ++ w.tags.names in
      let now : List (View O I) = set (set views i both) other spent in
      let keeper : Name → ℕ = λ n. cond (h.keeper n == other) i (h.keeper n) in
      let V : TagsRule h.given h.keeper i v.tags = h.tagged i v there live in
      let W : TagsRule h.given h.keeper other w.tags = h.tagged other w beside alive in
      let stays : (n : Name) (j : ℕ) → h.keeper n ≡ j → j ≢ other → keeper n ≡ j = λ n j e ne. ap (λ (b : Bool). cond b i (h.keeper n)) (ne_eqb (h.keeper n) other (λ x. ne (sym e ∙ x))) ∙ e in
      let moves : (n : Name) → h.keeper n ≡ other → keeper n ≡ i = λ n e. ap (λ (b : Bool). cond b i (h.keeper n)) (eq-eqb (h.keeper n) other e) in
      let here : get_elem? now i ≡ some both = set_else (set views i both) other i spent (λ e. apart (sym e)) ∙ set_here views i both (within views i v there) in
      record {
        given = h.given;
        keeper = keeper;
        root = h.root;
        closed = h.closed;
        kept = λ n g.
            let k : HasName views (h.keeper n) n = h.kept n g in
            dite (ℕ_discrete (h.keeper n) other)
            (λ (e : h.keeper n ≡ other).
            let same : k.0 ≡ w = mathlib.Core.Option.some-injective _ _ (sym k.1 ∙ ap (λ (j : ℕ). get_elem? views j) e ∙ beside) in
            (both, ap (λ (j : ℕ). get_elem? now j) (moves n e) ∙ here, live, knows-back n v.tags.names w.tags.names (ap (λ (u : View O I). knows n u.tags.names) (sym same) ∙ k.3)))
            (λ (ne : h.keeper n ≢ other).
            let x = keeps_set views i v both (h.keeper n) n there live (λ y. knows-front n v.tags.names w.tags.names y) k in
            subst (λ (j : ℕ). HasName now j n) (sym (stays n (h.keeper n) refl ne)) (x.0, set_else (set views i both) other (h.keeper n) spent ne ∙ x.1, x.2, x.3));
        tagged = λ j u e up. each_set (λ j u. IsLive u → TagsRule h.given keeper j u.tags) (set views i both) other spent
            (λ j u ne e up. each_set (λ j u. j ≢ other → IsLive u → TagsRule h.given keeper j u.tags) views i both
            (λ j u _ e ne up.
            let U : TagsRule h.given h.keeper j u.tags = h.tagged j u e up in record {
              own = U.own;
              few = U.few;
              many = U.many;
              named = λ n k. let x = U.named n k in (x.0, stays n j x.1 ne);
              out_only = U.out_only;
              out_all = U.out_all;
            })
            (λ _ _. record {
              own = knows-front v.tags.name v.tags.names w.tags.names V.own;
              few = V.few;
              many = V.many;
              named = λ n k. ⊎_elim
                  (λ (x : knows n v.tags.names ≡ true). let y = V.named n x in (y.0, stays n i y.1 (λ z. apart (sym z))))
                  (λ (x : knows n w.tags.names ≡ true). let y = W.named n x in (y.0, moves n y.1))
                  (knows-append n v.tags.names w.tags.names k);
              out_only = λ n k.
                  let x = without-only n names (v.tags.out ++ w.tags.out) k in
                  ⊎_elim
                  (λ (y : knows n v.tags.out ≡ true). let z = V.out_only n y in (z.0, x.1, (z.2.0, z.2.1, z.2.2, knows-front z.2.0 v.tags.names w.tags.names z.2.3)))
                  (λ (y : knows n w.tags.out ≡ true). let z = W.out_only n y in (z.0, x.1, (z.2.0, z.2.1, z.2.2, knows-back z.2.0 v.tags.names w.tags.names z.2.3)))
                  (knows-append n v.tags.out w.tags.out x.0);
              out_all = λ n g lacks child. without-all n names (v.tags.out ++ w.tags.out)
                  (⊎_elim
                  (λ (y : knows child.0 v.tags.names ≡ true). knows-front n v.tags.out w.tags.out (V.out_all n g (refute (knows n v.tags.names) (λ z. off (sym lacks ∙ knows-front n v.tags.names w.tags.names z))) (child.0, child.1, child.2, y)))
                  (λ (y : knows child.0 w.tags.names ≡ true). knows-back n v.tags.out w.tags.out (W.out_all n g (refute (knows n w.tags.names) (λ z. off (sym lacks ∙ knows-back n v.tags.names w.tags.names z))) (child.0, child.1, child.2, y)))
                  (knows-append child.0 v.tags.names w.tags.names child.3))
                  lacks;
            })
            j u e ne up)
            (λ dead. absurd (dead refl))
            j u e up;
      }

  -- a pass with the empty name and nothing out has each name
  pub has_all : (views : List (View O I)) (i : ℕ) (v : View O I) → get_elem? views i ≡ some v → IsLive v → v.tags.name ≡ [] → v.tags.out ≡ [] → (h : NamesRule views) → (n : Name) → knows n h.given ≡ true → knows n v.tags.names ≡ true
  has_all views i v there live root none h n g =
      let T : TagsRule h.given h.keeper i v.tags = h.tagged i v there live in
      climb h.given v.tags.names h.closed
      (λ p k had given. ⊎_elim
      (λ (y : knows (p ++ k ∷ []) v.tags.names ≡ true). y)
      (λ (lacks : knows (p ++ k ∷ []) v.tags.names ≡ false). absurd (off (ap (λ (l : List Name). knows (p ++ k ∷ []) l) (sym none) ∙ T.out_all (p ++ k ∷ []) given lacks (p, k, refl, had))))
      (decide (knows (p ++ k ∷ []) v.tags.names)))
      n [] (subst (λ (m : Name). knows m v.tags.names ≡ true) root T.own) g

  -- then no other pass is left
  pub alone : (views : List (View O I)) (i : ℕ) (v : View O I) → get_elem? views i ≡ some v → IsLive v → v.tags.name ≡ [] → v.tags.out ≡ [] → NamesRule views
      → (j : ℕ) (u : View O I) → get_elem? views j ≡ some u → IsLive u → j ≡ i
  alone views i v there live root none h j u at up =
      let U : TagsRule h.given h.keeper j u.tags = h.tagged j u at up in
      let T : TagsRule h.given h.keeper i v.tags = h.tagged i v there live in
      let n : Name = u.tags.name in
      let own = U.named n U.own in
      sym own.1 ∙ (T.named n (has_all views i v there live root none h n own.0)).1

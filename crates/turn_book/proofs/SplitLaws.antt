-- One more pass that is split, or joined again.
use Rattle.std.proofs.Common.{◌≡◌, ◌≢◌, ℕ, ◌+◌, ◌<◌, List, [], ◌∷◌, ◌++◌, true, false, refl, sym, ap, ◌∙◌, subst, ⊎_elim, ◌⊎◌, inl, inr, arith, length, length-append, Some, slice_get}
use mathlib.Core.List.{IsPrefix}
use mathlib.Core.Logic.{dite}
use native.Mathlib.Decide.{ℕ_discrete}
use Rattle.turn_book.specs.declared.view.View.{View}
use Rattle.turn_book.specs.declared.view.Tags.{Tags}
use Rattle.turn_book.specs.Names.{Name, knows}
use Rattle.turn_book.specs.Places.{has, AreApart}
use Rattle.turn_book.specs.Knowing.{split_left, next_name, joined, longer, AreNested}
use Rattle.turn_book.proofs.Bools.{off, refute}
use Rattle.turn_book.proofs.Prefixes.{prefix_self, prefix_trans, prefix_whole}
use Rattle.turn_book.proofs.Places.{has_merge, merge_has}
use Rattle.turn_book.proofs.Forks.{longer_cases}
use Rattle.turn_book.proofs.Naming.{knows-append, knows-front, knows-back, knows-self, knows-one, without-only}
use Rattle.turn_book.specs.SplitPasses.{child, AreSplit, IsSplitOff, SomeMade, IsOneOf, AreJoined}
use Rattle.turn_book.proofs.Lists.{get-left, get-snoc, get-last}

-- of two histories of which one begins the other, both begin the longer
pub both_begin : {I : Type 0} (xs ys : List I) → AreNested xs ys → IsPrefix xs (longer xs ys) × IsPrefix ys (longer xs ys)
both_begin xs ys nested = longer_cases xs ys (λ l. IsPrefix xs l × IsPrefix ys l)
    (λ le. (
      prefix_self xs,
      ⊎_elim
          (λ (p : IsPrefix xs ys). subst (λ l. IsPrefix l xs) (prefix_whole xs ys p le) (prefix_self xs))
          (λ (p : IsPrefix ys xs). p)
          nested,
    ))
    (λ le. (
      ⊎_elim
          (λ (p : IsPrefix xs ys). p)
          (λ (p : IsPrefix ys xs). subst (λ l. IsPrefix l ys) (prefix_whole ys xs p le) (prefix_self ys))
          nested,
      prefix_self ys,
    ))

module _ {O I : Type 0} where
  -- ---- split

  pub split_none : (v : View O I) → AreSplit 0 v v
  split_none v = record { seen = refl; made = refl; name = refl; names = refl; splits = omega arith; out = λ m k. inl k }

  pub next_child : (n : ℕ) (v w : View O I) → AreSplit n v w → next_name w.tags ≡ child v n
  next_child n v w h = let k : w.tags.splits + 1 ≡ v.tags.splits + n + 1 = omega (arith, h.splits) in λ i. h.name i ++ k i ∷ []

  pub split_more : (n : ℕ) (v w x : View O I) → AreSplit n v w → x ≡ split_left w → AreSplit (n + 1) v x
  split_more n v w x h e = subst (AreSplit (n + 1) v) (sym e) (record {
    seen = h.seen;
    made = h.made;
    name = h.name;
    names = h.names;
    splits = omega (arith, h.splits);
    out = λ m k. ⊎_elim
        (λ (y : knows m w.tags.out ≡ true). ⊎_elim
        (λ (z : knows m v.tags.out ≡ true). inl z)
        (λ (z : (i : ℕ) × (i < n) × (m ≡ child v i)). inr (z.0, omega (arith, z.1), z.2))
        (h.out m y))
        (λ (y : knows m (next_name w.tags ∷ []) ≡ true). inr (n, omega arith, knows-one m (next_name w.tags) y ∙ next_child n v w h))
        (knows-append m w.tags.out (next_name w.tags ∷ []) k);
  })

  -- ---- joined again

  none_made : (k : ℕ) → SomeMade (let none : List (View O I) = [] in none) k → ⊥
  none_made k some = absurd (cc (some.2))

  pub joined_none : (n : ℕ) (v w : View O I) → AreSplit n v w → AreJoined n v w []
  joined_none n v w h = record {
    began = subst (IsPrefix v.seen) (sym h.seen) (prefix_self v.seen);
    whose = inl h.seen;
    all = λ j t at. absurd (cc at);
    name = h.name;
    out = h.out;
    back = λ j lt. absurd (omega arith);
    gone = λ some. absurd (omega arith);
    made_only = λ k is. inl (ap (λ (l : List ℕ). has k l) (sym h.made) ∙ is);
    made_before = λ k is. ap (λ (l : List ℕ). has k l) h.made ∙ is;
    made_since = λ k some. absurd (none_made k some);
    new = λ k some. absurd (none_made k some);
    apart = λ i j t u k ne at. absurd (cc at);
  }

  made_left : (taken : List (View O I)) (p : View O I) (k : ℕ) → SomeMade taken k → SomeMade (taken ++ p ∷ []) k
  made_left taken p k some = (some.0, some.1, get-left taken (p ∷ []) some.0 some.1 some.2, some.3)

  made_last : (taken : List (View O I)) (p : View O I) (k : ℕ) → has k p.made ≡ true → SomeMade (taken ++ p ∷ []) k
  made_last taken p k is = (length taken, p, get-last taken p, is)

  made_by : (taken : List (View O I)) (p : View O I) (k : ℕ) → SomeMade (taken ++ p ∷ []) k → SomeMade taken k ⊎ (has k p.made ≡ true)
  made_by taken p k some = ⊎_elim
      (λ (at : slice_get taken some.0 ≡ Some some.1). inl (some.0, some.1, at, some.3))
      (λ (last : (some.0 ≡ length taken) × (some.1 ≡ p)). inr (subst (λ (t : View O I). has k t.made ≡ true) last.1 some.3))
      (get-snoc taken p some.0 some.1 some.2)

  whose_next : (v w p : View O I) (taken : List (View O I)) → IsOneOf v taken w.seen → IsOneOf v (taken ++ p ∷ []) (longer w.seen p.seen)
  whose_next v w p taken whose = longer_cases w.seen p.seen (λ l. IsOneOf v (taken ++ p ∷ []) l)
      (λ le. ⊎_elim
      (λ (is : w.seen ≡ v.seen). inl is)
      (λ (is : (j : ℕ) × (t : View O I) × (slice_get taken j ≡ Some t) × (w.seen ≡ t.seen)). inr (is.0, is.1, get-left taken (p ∷ []) is.0 is.1 is.2, is.3))
      whose)
      (λ le. inr (length taken, p, get-last taken p, refl))

  pub joined_more : (n : ℕ) (v w p x : View O I) (taken : List (View O I)) → AreJoined n v w taken → IsSplitOff v (length taken) p → AreNested w.seen p.seen → AreApart w.made p.made → x ≡ joined w p → AreJoined n v x (taken ++ p ∷ [])
  joined_more n v w p x taken h off_v nested apart e = subst (λ (y : View O I). AreJoined n v y (taken ++ p ∷ [])) (sym e) (
      let begin = both_begin w.seen p.seen nested in
      record {
        began = prefix_trans v.seen w.seen (longer w.seen p.seen) h.began begin.0;
        whose = whose_next v w p taken h.whose;
        all = λ j t at. ⊎_elim
            (λ (old : slice_get taken j ≡ Some t). prefix_trans t.seen w.seen (longer w.seen p.seen) (h.all j t old) begin.0)
            (λ (last : (j ≡ length taken) × (t ≡ p)). subst (λ (u : View O I). IsPrefix u.seen (longer w.seen p.seen)) (sym last.1) begin.1)
            (get-snoc taken p j t at);
        name = h.name;
        out = λ m k.
            let y = without-only m (w.tags.names ++ p.tags.names) (w.tags.out ++ p.tags.out) k in
            ⊎_elim
            (λ (z : knows m w.tags.out ≡ true). h.out m z)
            (λ (z : knows m p.tags.out ≡ true). absurd (off (subst (λ (t : Tags I). knows m t.out ≡ true) off_v.tags z)))
            (knows-append m w.tags.out p.tags.out y.0);
        back = λ j lt. dite (ℕ_discrete j (length taken))
            (λ (s : j ≡ length taken). knows-back (child v j) w.tags.names p.tags.names (subst (λ (t : Tags I). knows (child v j) t.names ≡ true) (sym off_v.tags) (subst (λ (k : ℕ). knows (child v k) (child v (length taken) ∷ []) ≡ true) (sym s) (knows-self (child v (length taken)) []))))
            (λ (ne : j ≢ length taken). knows-front (child v j) w.tags.names p.tags.names (h.back j (omega (arith, ne, lt, length-append taken (p ∷ [])))));
        gone = λ some m k. (without-only m (w.tags.names ++ p.tags.names) (w.tags.out ++ p.tags.out) k).1;
        made_only = λ k is. ⊎_elim
            (λ (old : has k w.made ≡ true). ⊎_elim
            (λ (before : has k v.made ≡ true). inl before)
            (λ (some : SomeMade taken k). inr (made_left taken p k some))
            (h.made_only k old))
            (λ (new : has k p.made ≡ true). inr (made_last taken p k new))
            (has_merge k w.made p.made is);
        made_before = λ k is. merge_has k w.made p.made (inl (h.made_before k is));
        made_since = λ k some. ⊎_elim
            (λ (old : SomeMade taken k). merge_has k w.made p.made (inl (h.made_since k old)))
            (λ (new : has k p.made ≡ true). merge_has k w.made p.made (inr new))
            (made_by taken p k some);
        new = λ k some. ⊎_elim
            (λ (old : SomeMade taken k). h.new k old)
            (λ (new : has k p.made ≡ true). refute (has k v.made) (λ before. off (sym (apart k (h.made_before k before)) ∙ new)))
            (made_by taken p k some);
        apart = λ i j t u k ne at there is. ⊎_elim
            (λ (old : slice_get taken i ≡ Some t). ⊎_elim
            (λ (older : slice_get taken j ≡ Some u). h.apart i j t u k ne old older is)
            (λ (last : (j ≡ length taken) × (u ≡ p)). subst (λ (y : View O I). has k y.made ≡ false) (sym last.1) (apart k (h.made_since k (i, t, old, is))))
            (get-snoc taken p j u there))
            (λ (last : (i ≡ length taken) × (t ≡ p)).
            let mine : has k p.made ≡ true = subst (λ (y : View O I). has k y.made ≡ true) last.1 is in
            ⊎_elim
            (λ (older : slice_get taken j ≡ Some u). refute (has k u.made) (λ also. off (sym (apart k (h.made_since k (j, u, older, also))) ∙ mine)))
            (λ (both : (j ≡ length taken) × (u ≡ p)). absurd (ne (last.0 ∙ sym both.0)))
            (get-snoc taken p j u there))
            (get-snoc taken p i t at);
      })

  pub all_back : (n : ℕ) (v w : View O I) (taken : List (View O I)) → 0 < n → length taken ≡ n → AreJoined n v w taken → (m : Name) → knows m w.tags.out ≡ true → knows m v.tags.out ≡ true
  all_back n v w taken some whole h m k = ⊎_elim
      (λ (z : knows m v.tags.out ≡ true). z)
      (λ (z : (i : ℕ) × (i < n) × (m ≡ child v i)). absurd (off (sym (h.gone (omega (arith, some, whole)) m k) ∙ subst (λ (q : Name). knows q w.tags.names ≡ true) (sym z.2) (h.back z.0 (omega (arith, z.1, whole))))))
      (h.out m k)

-- nothing that is known to be out leaves no list
pub none_out : (names : List Name) → ((m : Name) → knows m names ≡ true → ⊥) → names ≡ []
none_out [] empty = refl
none_out (n ∷ names) empty = absurd (empty n (knows-self n names))

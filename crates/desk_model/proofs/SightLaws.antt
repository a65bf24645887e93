-- Views of beginnings of a history, one after another.
use Rattle.std.proofs.Common.{◌≡◌, ◌≢◌, ℕ, zero, suc, ◌+◌, ◌-◌, ◌<◌, ◌≤◌, List, [], ◌∷◌, ◌++◌, length, take, refl, sym, ap, ◌∙◌, subst, arith, length-append, ⊎_elim, ◌⊎◌, inl, inr}
use Rattle.std.specs.Prelude.{Some, None, slice_get, slice_index_or}
use Rattle.std.proofs.lemmas.List.{take_at, append-nil}
use mathlib.Core.List.{IsPrefix}
use Rattle.desk_model.specs.declared.answer.Entry.{Entry}
use Rattle.desk_model.specs.States.{State}
use Rattle.desk_model.specs.Histories.{state, changes}
use Rattle.desk_model.specs.declared.view.View.{View}
use Rattle.desk_model.specs.Views.{view_of, IsSightOf, AreSeen}
use Rattle.desk_model.proofs.ViewLaws.{counts}

pub entries_of : (S : State) (h : List Entry) → (view_of S h).entries ≡ length h
entries_of S h = (counts (length h) (changes h) (state S h) (state S h).broken).0

take_prefix : (g h : List Entry) → IsPrefix g h → take (length g) h ≡ g
take_prefix g h p = ap (take (length g)) (sym p.1) ∙ take_at g p.0 (length g) refl

pub sight : (S : State) (g h : List Entry) (v : View) → IsPrefix g h → v ≡ view_of S g → IsSightOf S h v
sight S g h v p is =
    let count : v.entries ≡ length g = ap (λ (w : View). w.entries) is ∙ entries_of S g in
    record {
      within = (let long : length g + length p.0 ≡ length h = sym (length-append g p.0) ∙ ap length p.1 in omega (arith, count, long));
      view = is ∙ ap (view_of S) (sym (ap (λ (n : ℕ). take n h) count ∙ take_prefix g h p));
    }

-- views so far, all of fewer entries than this
pub record AreSightsBelow (S : State) (h : List Entry) (least : ℕ) (lines : List View) : Type 0 where
  pub each : (i : ℕ) (v : View) → slice_get lines i ≡ Some v → IsSightOf S h v
  pub rising : (i : ℕ) (v w : View) → slice_get lines i ≡ Some v → slice_get lines (i + 1) ≡ Some w → v.entries < w.entries
  pub below : (i : ℕ) (v : View) → slice_get lines i ≡ Some v → v.entries < least

pub no_sights : (S : State) (h : List Entry) (least : ℕ) → AreSightsBelow S h least []
no_sights S h least = record {
  each = λ i v at. absurd (cc at);
  rising = λ i v w at next. absurd (cc at);
  below = λ i v at. absurd (cc at);
}

get_snoc : {X : Type 0} (xs : List X) (y : X) (i : ℕ) (x : X) → slice_get (xs ++ y ∷ []) i ≡ Some x → (slice_get xs i ≡ Some x) ⊎ ((i ≡ length xs) × (y ≡ x))
get_snoc [] y zero x at = inr (refl, cc at)
get_snoc [] y (suc i) x at = absurd (cc at)
get_snoc (z ∷ xs) y zero x at = inl at
get_snoc (z ∷ xs) y (suc i) x at = ⊎_elim (λ (a : slice_get xs i ≡ Some x). inl a) (λ (b : (i ≡ length xs) × (y ≡ x)). inr (omega (arith, b.0), b.1)) (get_snoc xs y i x at)

get_last : {X : Type 0} (xs : List X) (y : X) → slice_get (xs ++ y ∷ []) (length xs) ≡ Some y
get_last [] y = refl
get_last (x ∷ xs) y = get_last xs y

get_low : {X : Type 0} (xs : List X) (i : ℕ) (x : X) → slice_get xs i ≡ Some x → i < length xs
get_low [] i x at = absurd (cc at)
get_low (y ∷ xs) zero x at = omega arith
get_low (y ∷ xs) (suc i) x at = (let low = get_low xs i x at in omega (arith, low))

-- one more, with no fewer entries than that
pub sights_more : (S : State) (h : List Entry) (least : ℕ) (lines : List View) (v : View) → AreSightsBelow S h least lines → IsSightOf S h v → least ≤ v.entries → AreSightsBelow S h (v.entries + 1) (lines ++ v ∷ [])
sights_more S h least lines v are is le = record {
  each = λ i w at. ⊎_elim
      (λ (old : slice_get lines i ≡ Some w). are.each i w old)
      (λ (new : (i ≡ length lines) × (v ≡ w)). subst (IsSightOf S h) new.1 is)
      (get_snoc lines v i w at);
  rising = λ i a b at next. ⊎_elim
      (λ (old : slice_get lines (i + 1) ≡ Some b). ⊎_elim
      (λ (first : slice_get lines i ≡ Some a). are.rising i a b first old)
      (λ (new : (i ≡ length lines) × (v ≡ a)). absurd (let low = get_low lines (i + 1) b old in omega (arith, low, new.0)))
      (get_snoc lines v i a at))
      (λ (new : (i + 1 ≡ length lines) × (v ≡ b)). ⊎_elim
      (λ (first : slice_get lines i ≡ Some a). (let low = are.below i a first in subst (λ (w : View). a.entries < w.entries) new.1 (omega (arith, low, le))))
      (λ (same : (i ≡ length lines) × (v ≡ a)). absurd (omega (arith, same.0, new.0)))
      (get_snoc lines v i a at))
      (get_snoc lines v (i + 1) b next);
  below = λ i w at. ⊎_elim
      (λ (old : slice_get lines i ≡ Some w). (let low = are.below i w old in omega (arith, low, le)))
      (λ (new : (i ≡ length lines) × (v ≡ w)). subst (λ (x : View). x.entries < v.entries + 1) new.1 (omega arith))
      (get_snoc lines v i w at);
}

-- and the last one, of the whole
pub sights_end : (S : State) (h : List Entry) (least : ℕ) (lines : List View) (v : View) → AreSightsBelow S h least lines → length lines ≤ 63 → least ≤ v.entries → v ≡ view_of S h → AreSeen S h (lines ++ v ∷ [])
sights_end S h least lines v are short le is =
    let all = sights_more S h least lines v are (sight S h h v ([], append-nil h) is) le in
    let count : length (lines ++ v ∷ []) ≡ length lines + 1 = length-append lines (v ∷ []) in
    record {
      few = omega (arith, count, short);
      each = all.each;
      rising = all.rising;
      last = ap (slice_get (lines ++ v ∷ [])) (let e : length (lines ++ v ∷ []) - 1 ≡ length lines = omega (arith, count) in e) ∙ get_last lines v ∙ ap Some is;
    }

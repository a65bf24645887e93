-- Trails and longer histories.
use Rattle.std.proofs.Common.{◌≡◌, ℕ, zero, suc, ◌-◌, ◌<◌, ◌≤◌, false, List, [], ◌∷◌, ◌++◌, Some, length, slice_get, refl, sym, ap, ◌∙◌, subst, arith, inl, inr, ⊎_elim, ◌⊎◌, length-append}
use Rattle.std.proofs.lemmas.List.{take_all, take-append-le}
use mathlib.Core.List.{IsPrefix}
use Rattle.desk_model.specs.declared.answer.Entry.{Entry}
use Rattle.desk_model.specs.States.{State}
use Rattle.desk_model.specs.Histories.{state}
use Rattle.near_moves.specs.Descent.{first_better, is_spent}
use Rattle.desk_teams.specs.declared.trail.Trail.{Trail}
use Rattle.desk_teams.specs.Trails.{IsFirstBetter, IsTrueItem, IsTrueTrail, IsInBudget}

-- ---- places of lists

pub get-left : {X : Type 0} (xs ys : List X) (i : ℕ) (x : X) → slice_get xs i ≡ Some x → slice_get (xs ++ ys) i ≡ Some x
get-left [] ys i x is = absurd (cc is)
get-left (y ∷ xs) ys zero x is = is
get-left (y ∷ xs) ys (suc i) x is = get-left xs ys i x is

pub get-below : {X : Type 0} (xs : List X) (i : ℕ) (x : X) → slice_get xs i ≡ Some x → i < length xs
get-below [] i x is = absurd (cc is)
get-below (y ∷ xs) zero x is = omega arith
get-below (y ∷ xs) (suc i) x is = let r = get-below xs i x is in omega (arith, r)

-- an item of a list with one more is one of the list, or the last
pub get-snoc : {X : Type 0} (xs : List X) (y : X) (i : ℕ) (x : X) → slice_get (xs ++ y ∷ []) i ≡ Some x → (slice_get xs i ≡ Some x) ⊎ ((i ≡ length xs) × (x ≡ y))
get-snoc [] y zero x is = inr (refl, (let e : y ≡ x = cc is in sym e))
get-snoc [] y (suc i) x is = absurd (cc is)
get-snoc (z ∷ xs) y zero x is = inl is
get-snoc (z ∷ xs) y (suc i) x is =
    ⊎_elim
    (λ (at : slice_get xs i ≡ Some x). inl at)
    (λ (last : (i ≡ length xs) × (x ≡ y)). inr (ap suc last.0, last.1))
    (get-snoc xs y i x is)

pub get-last : {X : Type 0} (xs : List X) (y : X) → slice_get (xs ++ y ∷ []) (length xs) ≡ Some y
get-last [] y = refl
get-last (x ∷ xs) y = get-last xs y

-- ---- longer histories

pub first-longer : (n : ℕ) (S : State) (h g : List Entry) (saw : ℕ) (entry : Entry) → saw ≤ length h → IsFirstBetter n S h saw entry → IsFirstBetter n S (h ++ g) saw entry
first-longer n S h g saw entry le first = record {
  move = first.move;
  proposed = first.proposed;
  planned = ap (λ (before : List Entry). (state S before).broken) (take-append-le saw h g le) ∙ first.planned;
  first = ap (λ (before : List Entry). first_better (state S before).inst (state S before).plan (entry.caller - 1) n) (take-append-le saw h g le) ∙ first.first;
}

pub item-longer : (number n : ℕ) (S : State) (h g : List Entry) (t : Trail) → IsTrueItem number n S h t → IsTrueItem number n S (h ++ g) t
item-longer number n S h g t item =
    let low = item.before in
    let below = get-below h t.place item.entry item.there in
    record {
      before = item.before;
      entry = item.entry;
      there = get-left h g t.place item.entry item.there;
      caller = item.caller;
      first = first-longer n S h g t.saw item.entry (omega (arith, low, below)) item.first;
    }

pub trail-longer : (number n : ℕ) (S : State) (trail : List Trail) (h g : List Entry) → IsPrefix h g → IsTrueTrail number n S trail h → IsTrueTrail number n S trail g
trail-longer number n S trail h g more is = subst (IsTrueTrail number n S trail) more.1 (record {
  items = λ i t at. item-longer number n S h more.0 t (is.items i t at);
  rising = is.rising;
})

pub trail-nil : (number n : ℕ) (S : State) (h : List Entry) → IsTrueTrail number n S [] h
trail-nil number n S h = record {
  items = λ i t at. absurd (cc at);
  rising = λ i j t u lt at. absurd (cc at);
}

pub trail-below : (number n : ℕ) (S : State) (trail : List Trail) (h : List Entry) (i : ℕ) (t : Trail) → IsTrueTrail number n S trail h → slice_get trail i ≡ Some t → t.place < length h
trail-below number n S trail h i t is at = let item = is.items i t at in get-below h t.place item.entry item.there

pub trail-snoc : (number n : ℕ) (S : State) (trail : List Trail) (h : List Entry) (t : Trail) → IsTrueTrail number n S trail h → IsTrueItem number n S h t → ((i : ℕ) (u : Trail) → slice_get trail i ≡ Some u → u.place < t.saw) → IsTrueTrail number n S (trail ++ t ∷ []) h
trail-snoc number n S trail h t is item above = record {
  items = λ i u at. ⊎_elim
      (λ (old : slice_get trail i ≡ Some u). is.items i u old)
      (λ (new : (i ≡ length trail) × (u ≡ t)). subst (IsTrueItem number n S h) (sym new.1) item)
      (get-snoc trail t i u at);
  rising = λ i j u v lt at there. ⊎_elim
      (λ (old : slice_get trail j ≡ Some v). ⊎_elim
      (λ (older : slice_get trail i ≡ Some u). is.rising i j u v lt older old)
      (λ (new : (i ≡ length trail) × (u ≡ t)). absurd (let low = get-below trail j v old in omega (arith, new.0, low, lt)))
      (get-snoc trail t i u at))
      (λ (new : (j ≡ length trail) × (v ≡ t)). ⊎_elim
      (λ (older : slice_get trail i ≡ Some u). subst (λ (w : Trail). u.place < w.saw) (sym new.1) (above i u older))
      (λ (last : (i ≡ length trail) × (u ≡ t)). absurd (omega (arith, new.0, last.0, lt)))
      (get-snoc trail t i u at))
      (get-snoc trail t j v there);
}

-- ---- budgets

pub budget-longer : (most : ℕ) (h g : List Entry) (t : Trail) → IsPrefix h g → IsInBudget most h t → IsInBudget most g t
budget-longer most h g t more is =
    let low = is.within in
    subst (λ (whole : List Entry). IsInBudget most whole t) more.1 (record {
      within = omega (arith, low, length-append h more.0);
      unspent = ap (is_spent most) (take-append-le t.saw h more.0 low) ∙ is.unspent;
    })

-- what was found after all of a history that is not spent
pub budget-seen : (most : ℕ) (saw g : List Entry) (t : Trail) → IsPrefix saw g → t.saw ≡ length saw → is_spent most saw ≡ false → IsInBudget most g t
budget-seen most saw g t more at unspent = budget-longer most saw g t more (record {
  within = omega (arith, at);
  unspent = ap (is_spent most) (take_all t.saw saw (omega (arith, at))) ∙ unspent;
})

-- An aircraft that flies the same legs with the same rows in two plans: its rotation is the same, and so is what rules ask of it.
use Rattle.std.proofs.Common.{◌≡◌, ℕ, ◌<◌, inl, inr, Bool, true, false, ◌&&◌, ◌||◌, eqb, List, [], ◌∷◌, ◌++◌, refl, sym, ap, ◌∙◌}
use Rattle.std.specs.Prelude.{filter, find, fold}
use Rattle.std.specs.List.{All}
use Rattle.std.proofs.Math.Path.{fun_ext}
use Rattle.std.proofs.lemmas.Bool.{true≢false, and_parts, and_right, eqb-true, false_from_ne_true}
use Rattle.std.proofs.lemmas.List.Elements.{All-head, All-tail, All-weaker, filter_passes, filter_agree}
use Rattle.desk_data.specs.declared.row.Row.{Row}
use Rattle.desk_data.specs.declared.row.Row.TheVariants.{Flown, Cancelled}
use Rattle.desk_data.specs.Situation.{Situation, legs_of}
use Rattle.desk_data.specs.PlanRows.{PlanRows, row_at}
use Rattle.desk_rules.specs.Numbers.{numbers, none_below, implies}
use Rattle.desk_rules.specs.Rotations.{dep, is_earlier, comes_before, precedes, follows, is_first}
use Rattle.desk_rules.specs.Maintenance.{is_flown_by, flies}
use Rattle.desk_model.specs.Push.{with_leg, rotation, leg_before}
use Rattle.desk_model.proofs.RotationOrder.{rotation-flown}
use Rattle.near_moves.specs.MoveParts.{flier, legs_from}
use Rattle.near_moves.specs.Same.{FliesSame}

-- ---- tests

pub and-same : (a b c d : Bool) → c ≡ d → (c ≡ true → a ≡ b) → (a && c) ≡ (b && d)
and-same a b true d is same = ap (λ (k : Bool). k && true) (same refl) ∙ ap (λ (k : Bool). b && k) is
and-same a b false d is same = and_right a false refl ∙ sym (and_right b d (sym is))

pub and-same_left : (c d a b : Bool) → c ≡ d → (c ≡ true → a ≡ b) → (c && a) ≡ (d && b)
and-same_left true d a b is same = same refl ∙ ap (λ (k : Bool). k && b) is
and-same_left false d a b is same = ap (λ (k : Bool). k && b) is

pub implies-same : (c d a b : Bool) → c ≡ d → (c ≡ true → a ≡ b) → implies c a ≡ implies d b
implies-same true d a b is same = same refl ∙ ap (λ (k : Bool). implies k b) is
implies-same false d a b is same = ap (λ (k : Bool). implies k b) is

pub filter-same : {X : Type 0} (f g : X → Bool) (xs : List X) → All (λ x. f x ≡ g x) xs → filter f xs ≡ filter g xs
filter-same f g [] same = refl
filter-same f g (x ∷ xs) same =
    rw (All-head (λ y. f y ≡ g y) x xs same, filter-same f g xs (All-tail (λ y. f y ≡ g y) x xs same)) refl

fold-same : (f g : List ℕ → ℕ → List ℕ) (done xs : List ℕ) → All (λ x. (ys : List ℕ) → f ys x ≡ g ys x) xs → fold f done xs ≡ fold g done xs
fold-same f g done [] same = refl
fold-same f g done (x ∷ xs) same =
    let Same : ℕ → Type 0 = λ y. (ys : List ℕ) → f ys y ≡ g ys y in
    ap (λ (ys : List ℕ). fold f ys xs) (All-head Same x xs same done) ∙ fold-same f g (g done x) xs (All-tail Same x xs same)

-- ---- rows

shares-first : (p x : ℕ) (row : Row) (y : ℕ) (other : Row) → comes_before x row y other ≡ true → is_flown_by p other ≡ true → is_flown_by p row ≡ true
shares-first p x (Flown plane dep) y (Flown by at) before on =
    let one : plane.0 ≡ by.0 = eqb-true plane.0 by.0 (and_parts (eqb plane.0 by.0) (is_earlier x dep.0 y at.0) before).0 in
    ap (λ (k : ℕ). eqb k p) one ∙ on
shares-first p x (Flown plane dep) y Cancelled before on = absurd cc
shares-first p x Cancelled y other before on = absurd cc

shares-second : (p x : ℕ) (row : Row) (y : ℕ) (other : Row) → comes_before x row y other ≡ true → is_flown_by p row ≡ true → is_flown_by p other ≡ true
shares-second p x (Flown plane dep) y (Flown by at) before on =
    let one : plane.0 ≡ by.0 = eqb-true plane.0 by.0 (and_parts (eqb plane.0 by.0) (is_earlier x dep.0 y at.0) before).0 in
    ap (λ (k : ℕ). eqb k p) (sym one) ∙ on
shares-second p x (Flown plane dep) y Cancelled before on = absurd cc
shares-second p x Cancelled y other before on = absurd cc

pub flies-first : (P : PlanRows) (p w x : ℕ) → precedes P w x ≡ true → flies P p x ≡ true → flies P p w ≡ true
flies-first P p w x before on = shares-first p w (row_at P w) x (row_at P x) before on

pub flies-second : (P : PlanRows) (p x y : ℕ) → precedes P x y ≡ true → flies P p x ≡ true → flies P p y ≡ true
flies-second P p x y before on = shares-second p x (row_at P x) y (row_at P y) before on

not-first : (P : PlanRows) (p w x : ℕ) → flies P p x ≡ true → flies P p w ≡ false → precedes P w x ≡ false
not-first P p w x on off = false_from_ne_true (precedes P w x) (λ before. true≢false (sym (flies-first P p w x before on) ∙ off))

not-second : (P : PlanRows) (p x y : ℕ) → flies P p x ≡ true → flies P p y ≡ false → precedes P x y ≡ false
not-second P p x y on off = false_from_ne_true (precedes P x y) (λ before. true≢false (sym (flies-second P p x y before on) ∙ off))

-- ---- one aircraft

pub flies-same : (P Q : PlanRows) (p : ℕ) → FliesSame P Q p → (x : ℕ) → flies P p x ≡ flies Q p x
flies-same P Q p same x =
    elim (same x) [
      | inl row ↦ ap (is_flown_by p) row
      | inr off ↦ off.0 ∙ sym off.1
    ]

pub row-same : (P Q : PlanRows) (p : ℕ) → FliesSame P Q p → (x : ℕ) → flies P p x ≡ true → row_at P x ≡ row_at Q x
row-same P Q p same x on =
    elim (same x) [
      | inl row ↦ row
      | inr off ↦ absurd (true≢false (sym on ∙ off.0))
    ]

module _ (I : Situation) (P Q : PlanRows) (p : ℕ) (same : FliesSame P Q p) where
  on-later : (x : ℕ) → flies P p x ≡ true → flies Q p x ≡ true
  on-later x on = sym (flies-same P Q p same x) ∙ on

  pub precedes-to : (w x : ℕ) → flies P p x ≡ true → precedes P w x ≡ precedes Q w x
  precedes-to w x on =
      elim (same w) [
        | inl row ↦
            ap (λ (r : Row). comes_before w r x (row_at P x)) row
            ∙ ap (λ (r : Row). comes_before w (row_at Q w) x r) (row-same P Q p same x on)
        | inr off ↦ not-first P p w x on off.0 ∙ sym (not-first Q p w x (on-later x on) off.1)
      ]

  pub precedes-of : (x y : ℕ) → flies P p x ≡ true → precedes P x y ≡ precedes Q x y
  precedes-of x y on =
      elim (same y) [
        | inl row ↦
            ap (λ (r : Row). comes_before x r y (row_at P y)) (row-same P Q p same x on)
            ∙ ap (λ (r : Row). comes_before x (row_at Q x) y r) row
        | inr off ↦ not-second P p x y on off.0 ∙ sym (not-second Q p x y (on-later x on) off.1)
      ]

  -- what lies between two legs
  between-same : (w x : ℕ) → flies P p x ≡ true → (z : ℕ) → (precedes P w z && precedes P z x) ≡ (precedes Q w z && precedes Q z x)
  between-same w x on z =
      and-same (precedes P w z) (precedes Q w z) (precedes P z x) (precedes Q z x) (precedes-to z x on)
      (λ before. precedes-to w z (flies-first P p z x before on))

  pub follows-to : (w x : ℕ) → flies P p x ≡ true → follows I P w x ≡ follows I Q w x
  follows-to w x on =
      ap (λ (b : Bool). b && none_below (legs_of I) (λ z. precedes P w z && precedes P z x)) (precedes-to w x on)
      ∙ ap (λ (test : ℕ → Bool). precedes Q w x && none_below (legs_of I) test) (fun_ext (between-same w x on))

  pub is_first-same : (x : ℕ) → flies P p x ≡ true → is_first I P x ≡ is_first I Q x
  is_first-same x on = ap (none_below (legs_of I)) (fun_ext (λ (w : ℕ). precedes-to w x on))

  pub leg_before-same : (x : ℕ) → flies P p x ≡ true → leg_before I P x ≡ leg_before I Q x
  leg_before-same x on = ap (λ (test : ℕ → Bool). find test (numbers (legs_of I))) (fun_ext (λ (w : ℕ). follows-to w x on))

  -- ---- its rotation

  with-same : (x : ℕ) → flies P p x ≡ true → (legs : List ℕ) → with_leg P legs x ≡ with_leg Q legs x
  with-same x on legs =
      ap (λ (test : ℕ → Bool). filter test legs ++ x ∷ filter (λ y. precedes P x y) legs) (fun_ext (λ (y : ℕ). precedes-to y x on))
      ∙ ap (λ (test : ℕ → Bool). filter (λ y. precedes Q y x) legs ++ x ∷ filter test legs) (fun_ext (λ (y : ℕ). precedes-of x y on))

  pub rotation-same : rotation I P p ≡ rotation I Q p
  unfolding rotation
  rotation-same =
      let legs = filter (flies P p) (numbers (legs_of I)) in
      let passes : All (λ x. flies P p x ≡ true) legs = filter_passes (flies P p) (numbers (legs_of I)) in
      fold-same (with_leg P) (with_leg Q) [] legs (λ k d lt. with-same _ (passes k d lt))
      ∙ ap (λ (xs : List ℕ). fold (with_leg Q) [] xs) (filter_agree (flies P p) (flies Q p) (flies-same P Q p same) (numbers (legs_of I)))

-- its legs have the same rows
pub rotation-rows : (I : Situation) (P Q : PlanRows) (p : ℕ) → FliesSame P Q p → All (λ x. row_at P x ≡ row_at Q x) (rotation I P p)
rotation-rows I P Q p same =
    All-weaker (λ x. (x < legs_of I) × (flies P p x ≡ true)) (λ x. row_at P x ≡ row_at Q x) (λ x own. row-same P Q p same x own.1) (rotation I P p) (rotation-flown I P p)

-- the legs from a leg on
pub from-same : (I : Situation) (P Q : PlanRows) (p x : ℕ) → FliesSame P Q p → flies P p x ≡ true → flier (row_at P x) ≡ p → legs_from I P x ≡ legs_from I Q x
unfolding legs_from
from-same I P Q p x same on is =
    let by : flier (row_at Q x) ≡ p = ap flier (sym (row-same P Q p same x on)) ∙ is in
    ap (λ (q : ℕ). filter (λ y. (eqb y x) || precedes P x y) (rotation I P q)) is
    ∙ ap (λ (test : ℕ → Bool). filter (λ y. (eqb y x) || test y) (rotation I P p)) (fun_ext (λ (y : ℕ). precedes-of I P Q p same x y on))
    ∙ ap (filter (λ y. (eqb y x) || precedes Q x y)) (rotation-same I P Q p same)
    ∙ ap (λ (q : ℕ). filter (λ y. (eqb y x) || precedes Q x y) (rotation I Q q)) (sym by)

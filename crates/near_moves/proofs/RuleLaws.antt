-- What rules ask of the legs of an aircraft that flies the same in two plans, and where it is left.
use Rattle.std.proofs.Common.{◌≡◌, ℕ, ◌+◌, Bool, true, ◌&&◌, ◌||◌, eqb, leb, ltb, refl, ap, ◌∙◌}
use Rattle.std.proofs.Math.Path.{fun_ext}
use Rattle.std.proofs.lemmas.Bool.{and_parts}
use Rattle.desk_data.specs.declared.row.Row.{Row}
use Rattle.desk_data.specs.declared.row.Row.TheVariants.{Flown, Cancelled}
use Rattle.desk_data.specs.Situation.{Situation, legs_of, leg_at, plane_at, fixed}
use Rattle.desk_data.specs.PlanRows.{PlanRows, row_at}
use Rattle.desk_rules.specs.Numbers.{none_below, each_below, implies}
use Rattle.desk_rules.specs.Rotations.{departure, dep, arr, precedes, follows, is_first, ground_time}
use Rattle.desk_rules.specs.Maintenance.{flies, departs_before, is_last_before, is_left_at}
use Rattle.desk_rules.specs.Rules.{departs_in_time, c4_range, c5_location, c6_ground_time, c7_service, keeps_c2, keeps_c4, keeps_c5, keeps_c6, keeps_c7}
use Rattle.near_moves.specs.Same.{FliesSame}
use Rattle.near_moves.proofs.PlaneLaws.{and-same_left, implies-same, flies-same, row-same, precedes-of, flies-first, follows-to, is_first-same}

module _ (I : Situation) (P Q : PlanRows) (p : ℕ) (same : FliesSame P Q p) where
  -- ---- C2 and C4 to C7 of a leg that it flies

  location-same : (y : ℕ) → flies P p y ≡ true → (row : Row) → c5_location I P y row ≡ c5_location I Q y row
  location-same y on (Flown plane dep) =
      let air = (plane_at I plane.0).surface in
      let starts = eqb (leg_at I y).origin.0 (plane_at I plane.0).origin.0 in
      ap (λ (b : Bool). air || (implies b starts && each_below (legs_of I) (λ x. implies (follows I P x y) (eqb (leg_at I y).origin.0 (leg_at I x).dest.0)))) (is_first-same I P Q p same y on)
      ∙ ap (λ (test : ℕ → Bool). air || (implies (is_first I Q y) starts && each_below (legs_of I) (λ x. implies (test x) (eqb (leg_at I y).origin.0 (leg_at I x).dest.0)))) (fun_ext (λ (x : ℕ). follows-to I P Q p same x y on))
  location-same y on Cancelled = refl

  ready-same : (y : ℕ) → flies P p y ≡ true → (plane at x : ℕ) → implies (follows I P x y) (leb (arr I P x + ground_time I plane x y) at) ≡ implies (follows I Q x y) (leb (arr I Q x + ground_time I plane x y) at)
  ready-same y on plane at x =
      implies-same (follows I P x y) (follows I Q x y) _ _ (follows-to I P Q p same x y on)
      (λ next.
      let before : precedes P x y ≡ true = (and_parts (precedes P x y) (none_below (legs_of I) (λ z. precedes P x z && precedes P z y)) next).0 in
      ap (λ (row : Row). leb (departure row + (leg_at I x).block + ground_time I plane x y) at) (row-same P Q p same x (flies-first P p x y before on)))

  time-same : (y : ℕ) → flies P p y ≡ true → (row : Row) → c6_ground_time I P y row ≡ c6_ground_time I Q y row
  time-same y on (Flown plane dep) =
      ap (λ (test : ℕ → Bool). (plane_at I plane.0).surface || each_below (legs_of I) test) (fun_ext (λ (x : ℕ). ready-same y on plane.0 dep.0 x))
  time-same y on Cancelled = refl

  pub c5-same : (y : ℕ) → flies P p y ≡ true → keeps_c5 I P y ≡ keeps_c5 I Q y
  unfolding keeps_c5
  c5-same y on = location-same y on (row_at P y) ∙ ap (c5_location I Q y) (row-same P Q p same y on)

  pub c6-same : (y : ℕ) → flies P p y ≡ true → keeps_c6 I P y ≡ keeps_c6 I Q y
  unfolding keeps_c6
  c6-same y on = time-same y on (row_at P y) ∙ ap (c6_ground_time I Q y) (row-same P Q p same y on)

  pub c2-same : (y : ℕ) → flies P p y ≡ true → keeps_c2 I P y ≡ keeps_c2 I Q y
  unfolding keeps_c2
  c2-same y on = ap (λ (row : Row). fixed I y || departs_in_time I y row) (row-same P Q p same y on)

  pub c4-same : (y : ℕ) → flies P p y ≡ true → keeps_c4 I P y ≡ keeps_c4 I Q y
  unfolding keeps_c4
  c4-same y on = ap (c4_range I y) (row-same P Q p same y on)

  pub c7-same : (y : ℕ) → flies P p y ≡ true → keeps_c7 I P y ≡ keeps_c7 I Q y
  unfolding keeps_c7
  c7-same y on = ap (c7_service I y) (row-same P Q p same y on)

  -- ---- where it is left at a moment

  departs-same : (at x : ℕ) → departs_before P p at x ≡ departs_before Q p at x
  departs-same at x =
      and-same_left (flies P p x) (flies Q p x) _ _ (flies-same P Q p same x)
      (λ on. ap (λ (row : Row). ltb (departure row) at) (row-same P Q p same x on))

  last-same : (at x : ℕ) → is_last_before I P p at x ≡ is_last_before I Q p at x
  last-same at x =
      and-same_left (departs_before P p at x) (departs_before Q p at x) _ _ (departs-same at x)
      (λ departs.
      let on : flies P p x ≡ true = (and_parts (flies P p x) (ltb (dep P x) at) departs).0 in
      ap (none_below (legs_of I))
      (fun_ext (λ (z : ℕ). and-same_left (departs_before P p at z) (departs_before Q p at z) (precedes P x z) (precedes Q x z) (departs-same at z) (λ _. precedes-of I P Q p same x z on))))

  pub left_at-same : (at airport : ℕ) → is_left_at I P p at airport ≡ is_left_at I Q p at airport
  left_at-same at airport =
      ap (λ (test : ℕ → Bool). implies (none_below (legs_of I) test) (eqb (plane_at I p).origin.0 airport) && each_below (legs_of I) (λ x. implies (is_last_before I P p at x) (eqb (leg_at I x).dest.0 airport)))
      (fun_ext (λ (x : ℕ). departs-same at x))
      ∙ ap (λ (test : ℕ → Bool). implies (none_below (legs_of I) (departs_before Q p at)) (eqb (plane_at I p).origin.0 airport) && each_below (legs_of I) (λ x. implies (test x) (eqb (leg_at I x).dest.0 airport)))
      (fun_ext (λ (x : ℕ). last-same at x))

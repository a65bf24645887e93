-- The hours of airports in plans in which two aircraft alone do something else.
use Rattle.std.proofs.Common.{◌≡◌, ℕ, ◌+◌, ◌≤◌, inl, inr, Bool, false, ◌&&◌, eqb, not, sym, ap, ◌∙◌, arith}
use Rattle.std.specs.Prelude.{count_by}
use Rattle.std.proofs.Math.Path.{fun_ext}
use Rattle.std.proofs.lemmas.Bool.{cases_Bool, and_parts}
use Rattle.desk_data.specs.declared.row.Row.{Row}
use Rattle.desk_data.specs.Situation.{Situation, legs_of, leg_at, plane_at}
use Rattle.desk_data.specs.PlanRows.{PlanRows, row_at}
use Rattle.desk_rules.specs.Numbers.{numbers}
use Rattle.desk_rules.specs.Rotations.{departure}
use Rattle.desk_rules.specs.Slots.{hour_of}
use Rattle.desk_rules.specs.Passengers.{is_flown}
use Rattle.desk_model.specs.Push.{departs_beside, arrives_beside, departures_beside, arrivals_beside}
use Rattle.near_moves.proofs.FrameLaws.{count-split, count-weaker}

module _ (legs : ℕ → Bool) (I : Situation) (P S : PlanRows) (same : (y : ℕ) → legs y ≡ false → row_at S y ≡ row_at P y) where
  outside-departs : (x a h y : ℕ) → (not (legs y) && departs_beside I S x a h y) ≡ (not (legs y) && departs_beside I P x a h y)
  outside-departs x a h y =
      elim (cases_Bool (legs y)) [
        | inl here ↦ ap (λ (b : Bool). not b && departs_beside I S x a h y) here ∙ sym (ap (λ (b : Bool). not b && departs_beside I P x a h y) here)
        | inr off ↦ ap (λ (row : Row). not (legs y) && ((not (eqb y x) && is_flown row && not (plane_at I (leg_at I y).plane.0).surface) && (eqb (leg_at I y).origin.0 a) && (eqb (hour_of (departure row)) h))) (same y off)
      ]

  outside-arrives : (x a h y : ℕ) → (not (legs y) && arrives_beside I S x a h y) ≡ (not (legs y) && arrives_beside I P x a h y)
  outside-arrives x a h y =
      elim (cases_Bool (legs y)) [
        | inl here ↦ ap (λ (b : Bool). not b && arrives_beside I S x a h y) here ∙ sym (ap (λ (b : Bool). not b && arrives_beside I P x a h y) here)
        | inr off ↦ ap (λ (row : Row). not (legs y) && ((not (eqb y x) && is_flown row && not (plane_at I (leg_at I y).plane.0).surface) && (eqb (leg_at I y).dest.0 a) && (eqb (hour_of (departure row + (leg_at I y).block)) h))) (same y off)
      ]

  -- all legs that are not theirs are where they were, and each of theirs may be there
  few : (f g : ℕ → Bool) → ((y : ℕ) → (not (legs y) && f y) ≡ (not (legs y) && g y)) → count_by f (numbers (legs_of I)) ≤ count_by legs (numbers (legs_of I)) + count_by g (numbers (legs_of I))
  few f g outside =
      let all = numbers (legs_of I) in
      let inside : ℕ = count_by (λ y. legs y && f y) all in
      let out : count_by (λ y. not (legs y) && f y) all ≡ count_by (λ y. not (legs y) && g y) all = ap (λ (test : ℕ → Bool). count_by test all) (fun_ext outside) in
      let own = count-weaker (λ y. legs y && f y) legs all (λ y is. (and_parts (legs y) (f y) is).0) in
      let rest = count-weaker (λ y. not (legs y) && g y) g all (λ y is. (and_parts (not (legs y)) (g y) is).1) in
      omega (arith, count-split legs f all, out, own, rest)

  pub departures-few : (x a h : ℕ) → departures_beside I S x a h ≤ count_by legs (numbers (legs_of I)) + departures_beside I P x a h
  departures-few x a h = few (departs_beside I S x a h) (departs_beside I P x a h) (outside-departs x a h)

  pub arrivals-few : (x a h : ℕ) → arrivals_beside I S x a h ≤ count_by legs (numbers (legs_of I)) + arrivals_beside I P x a h
  arrivals-few x a h = few (arrives_beside I S x a h) (arrives_beside I P x a h) (outside-arrives x a h)

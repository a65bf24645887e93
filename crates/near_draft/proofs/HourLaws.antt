-- How many legs do the same at an airport in an hour, after one change.
use Rattle.std.proofs.Common.{◌≡◌, ◌≢◌, ℕ, ◌+◌, ◌<◌, ◌≤◌, inl, inr, Bool, false, true, length, refl, sym, ap, ◌∙◌, arith}
use Rattle.std.specs.List.{count_by}
use Rattle.std.proofs.lemmas.List.Sums.{count_by-le-length}
use Rattle.desk_rules.specs.Numbers.{numbers}
use Rattle.desk_rules.proofs.HourLaws.{length-numbers}
use Rattle.std.proofs.lemmas.Bool.{cases_eq, eq-eqb, ne_eqb}
use Rattle.std.proofs.lemmas.List.{get_or-set_same, get_or-set_other}
use Rattle.desk_data.specs.declared.row.Row.{Row}
use Rattle.desk_data.specs.declared.row.Row.TheVariants.{Cancelled}
use Rattle.desk_data.specs.Situation.{Situation, legs_of}
use Rattle.desk_data.specs.PlanRows.{PlanRows, row_at, with_row}
use Rattle.desk_model.specs.Push.{departs_beside, arrives_beside}
use Rattle.hour_counts.specs.Counts.{one_if}
use Rattle.hour_counts.specs.declared.slot.Movement.{Movement}
use Rattle.hour_counts.specs.declared.slot.Movement.TheVariants.{Departure, Arrival}
use Rattle.hour_counts.proofs.CountLaws.{count_change}
use Rattle.near_draft.specs.Hours.{beside, is_counted_at}

pub one_if-few : (b : Bool) → one_if b ≤ 1
one_if-few true = omega arith
one_if-few false = omega arith

-- whether leg y, which is not leg x, is counted beside it
abbrev counted_beside : Movement → Situation → PlanRows → ℕ → ℕ → ℕ → ℕ → Bool
counted_beside Departure I Q x a h y = departs_beside I Q x a h y
counted_beside Arrival I Q x a h y = arrives_beside I Q x a h y

module _ (I : Situation) (x a h : ℕ) where
  -- how many there are of them
  abbrev count : Movement → PlanRows → ℕ
  count m Q = count_by (counted_beside m I Q x a h) (numbers (legs_of I))

  beside-is : (m : Movement) (Q : PlanRows) → beside m I Q x a h ≡ count m Q
  beside-is Departure Q = refl
  beside-is Arrival Q = refl

  -- another leg is counted by its row, and the leg itself is not
  counted-other : (m : Movement) (Q : PlanRows) (y : ℕ) → y ≢ x → counted_beside m I Q x a h y ≡ is_counted_at m I a h y (row_at Q y)
  counted-other Departure Q y other = rw (ne_eqb y x other) refl
  counted-other Arrival Q y other = rw (ne_eqb y x other) refl

  counted-itself : (m : Movement) (Q : PlanRows) (y : ℕ) → y ≡ x → counted_beside m I Q x a h y ≡ false
  counted-itself Departure Q y same = rw (eq-eqb y x same) refl
  counted-itself Arrival Q y same = rw (eq-eqb y x same) refl

  module _ (Q : PlanRows) (z : ℕ) (row : Row) (lt : z < legs_of I) (within : z < length Q.rows) where
    abbrev R : PlanRows
    R = with_row Q z row

    -- all legs but leg z have their rows
    counted-same : (m : Movement) (y : ℕ) → y ≢ z → counted_beside m I R x a h y ≡ counted_beside m I Q x a h y
    counted-same m y apart =
        elim (cases_eq y x) [
          | inl same ↦ counted-itself m R y same ∙ sym (counted-itself m Q y same)
          | inr other ↦ counted-other m R y other ∙ ap (is_counted_at m I a h y) (get_or-set_other Q.rows z y row Cancelled apart) ∙ sym (counted-other m Q y other)
        ]

    change : (m : Movement) → count m R + one_if (counted_beside m I Q x a h z) ≡ count m Q + one_if (counted_beside m I R x a h z)
    change m = count_change (counted_beside m I R x a h) (counted_beside m I Q x a h) (legs_of I) z lt (counted-same m)

    pub beside-other : (m : Movement) → z ≢ x → beside m I R x a h + one_if (is_counted_at m I a h z (row_at Q z)) ≡ beside m I Q x a h + one_if (is_counted_at m I a h z row)
    beside-other m other =
        let was : one_if (counted_beside m I Q x a h z) ≡ one_if (is_counted_at m I a h z (row_at Q z)) = ap one_if (counted-other m Q z other) in
        let is : one_if (counted_beside m I R x a h z) ≡ one_if (is_counted_at m I a h z row) = ap one_if (counted-other m R z other ∙ ap (is_counted_at m I a h z) (get_or-set_same Q.rows z row Cancelled within)) in
        omega (arith, was, is, change m, beside-is m Q, beside-is m R)

    pub beside-itself : (m : Movement) → z ≡ x → beside m I R x a h ≡ beside m I Q x a h
    beside-itself m same =
        let was : one_if (counted_beside m I Q x a h z) ≡ 0 = ap one_if (counted-itself m Q z same) in
        let is : one_if (counted_beside m I R x a h z) ≡ 0 = ap one_if (counted-itself m R z same) in
        omega (arith, was, is, change m, beside-is m Q, beside-is m R)

  -- there are no more than legs
  pub beside-few : (m : Movement) (Q : PlanRows) → beside m I Q x a h ≤ legs_of I
  beside-few m Q = omega (arith, beside-is m Q, count_by-le-length (counted_beside m I Q x a h) (numbers (legs_of I)), length-numbers (legs_of I))

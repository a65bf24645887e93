-- What is counted of a plan, and what another row of one leg changes.
use Rattle.std.proofs.Common.{◌≡◌, ◌≢◌, ℕ, zero, suc, ◌+◌, ◌-◌, ◌<◌, ◌≤◌, ◌⊎◌, inl, inr, Bool, true, false, [], length, refl, ap, ◌∙◌, arith, add-one}
use Rattle.std.specs.Prelude.{◌==◌}
use Rattle.std.specs.List.{sum_by, count_by}
use Rattle.std.proofs.lemmas.List.{get_or-set_same, get_or-set_other}
use Rattle.std.proofs.lemmas.List.Sums.{sum_by_push, count_by-le-length}
use Rattle.std.proofs.lemmas.Bool.{cases_Bool}
use Rattle.std.proofs.lemmas.Bool.Decides.{nat_tests}
use Rattle.desk_data.specs.declared.row.Row.{Row}
use Rattle.desk_data.specs.declared.row.Row.TheVariants.{Flown, Cancelled}
use Rattle.desk_data.specs.Situation.{Situation, legs_of, leg_at, plane_at}
use Rattle.desk_data.specs.PlanRows.{PlanRows, row_at, with_row}
use Rattle.desk_data.specs.Valid.{IsPlanFor}
use Rattle.desk_rules.specs.Numbers.{numbers}
use Rattle.desk_rules.proofs.HourLaws.{length-numbers}
use Rattle.desk_model.specs.Push.{departs_beside, arrives_beside, departures_beside, arrivals_beside}
use Rattle.hour_counts.specs.Counts.{Counted, AreCountsOf, AreCountsOfFirst, Enters, Leaves, count_at, one_if, among, departs_at, arrives_at, departure_of, arrival_of}

-- terms that agree below n have one sum
sum_same : (f g : ℕ → ℕ) (n : ℕ) → ((y : ℕ) → y < n → f y ≡ g y) → sum_by f (numbers n) ≡ sum_by g (numbers n)
sum_same f g zero same = refl
sum_same f g (suc n) same =
    omega (arith, sum_by_push f (numbers n) n, sum_by_push g (numbers n) n, sum_same f g n (λ y lt. same y (omega arith)), same n (omega arith))

-- terms that agree but at x
sum_change : (f g : ℕ → ℕ) (n x : ℕ) → x < n → ((y : ℕ) → y ≢ x → f y ≡ g y) → sum_by f (numbers n) + g x ≡ sum_by g (numbers n) + f x
sum_change f g zero x lt same = absurd (omega arith)
sum_change f g (suc n) x lt same =
    let cases : (x < n) ⊎ (x ≡ n) = grind arith in
    elim cases [
      | inl less ↦ omega (arith, sum_by_push f (numbers n) n, sum_by_push g (numbers n) n, sum_change f g n x less same, same n (λ e. omega arith))
      | inr here ↦
          let at_f : f x ≡ f n = ap f here in
          let at_g : g x ≡ g n = ap g here in
          omega (arith, at_f, at_g, sum_by_push f (numbers n) n, sum_by_push g (numbers n) n, sum_same f g n (λ y lt. same y (λ e. omega arith)))
    ]

-- a test that changes at x alone
pub count_change : (p q : ℕ → Bool) (n x : ℕ) → x < n → ((y : ℕ) → y ≢ x → p y ≡ q y) → count_by p (numbers n) + one_if (q x) ≡ count_by q (numbers n) + one_if (p x)
count_change p q n x lt same = sum_change (λ y. one_if (p y)) (λ y. one_if (q y)) n x lt (λ y apart. ap one_if (same y apart))

-- a leg is counted where its row has it
pub departs_among : (I : Situation) (a h y : ℕ) (row : Row) → one_if (departs_at I a h y row) ≡ among (departure_of I y row) a h
departs_among I a h y Cancelled = refl
departs_among I a h y (Flown plane dep) =
    elim (cases_Bool (plane_at I (leg_at I y).plane.0).surface) [
      | inl up ↦ rw up refl
      | inr down ↦ rw down refl
    ]

pub arrives_among : (I : Situation) (a h y : ℕ) (row : Row) → one_if (arrives_at I a h y row) ≡ among (arrival_of I y row) a h
arrives_among I a h y Cancelled = refl
arrives_among I a h y (Flown plane dep) =
    elim (cases_Bool (plane_at I (leg_at I y).plane.0).surface) [
      | inl up ↦ rw up refl
      | inr down ↦ rw down refl
    ]

other_number : (y x : ℕ) → y ≢ x → (y == x) ≡ false
other_number y x apart = grind (arith, nat_tests)

itself : (x : ℕ) → (x == x) ≡ true
itself x = grind (arith, nat_tests)

-- the legs beside a leg are all that are counted, without its own row
pub departures_are : (I : Situation) (Q : PlanRows) (x a h n : ℕ) (row : Row) → x < legs_of I → row_at Q x ≡ row → n ≡ count_by (λ y. departs_at I a h y (row_at Q y)) (numbers (legs_of I)) → n - among (departure_of I x row) a h ≡ departures_beside I Q x a h
departures_are I Q x a h n row lt here is =
    let own : one_if (departs_at I a h x (row_at Q x)) ≡ among (departure_of I x row) a h = departs_among I a h x (row_at Q x) ∙ ap (λ r. among (departure_of I x r) a h) here in
    let none : one_if (departs_beside I Q x a h x) ≡ 0 = rw (itself x) refl in
    omega (arith, is, own, none, count_change (departs_beside I Q x a h) (λ y. departs_at I a h y (row_at Q y)) (legs_of I) x lt (λ y apart. rw (other_number y x apart) refl))

pub arrivals_are : (I : Situation) (Q : PlanRows) (x a h n : ℕ) (row : Row) → x < legs_of I → row_at Q x ≡ row → n ≡ count_by (λ y. arrives_at I a h y (row_at Q y)) (numbers (legs_of I)) → n - among (arrival_of I x row) a h ≡ arrivals_beside I Q x a h
arrivals_are I Q x a h n row lt here is =
    let own : one_if (arrives_at I a h x (row_at Q x)) ≡ among (arrival_of I x row) a h = arrives_among I a h x (row_at Q x) ∙ ap (λ r. among (arrival_of I x r) a h) here in
    let none : one_if (arrives_beside I Q x a h x) ≡ 0 = rw (itself x) refl in
    omega (arith, is, own, none, count_change (arrives_beside I Q x a h) (λ y. arrives_at I a h y (row_at Q y)) (legs_of I) x lt (λ y apart. rw (other_number y x apart) refl))

-- another row of leg x changes what is counted by its own two rows
pub departures_change : (I : Situation) (Q : PlanRows) (x a h : ℕ) (row : Row) → x < legs_of I → x < length Q.rows → count_by (λ y. departs_at I a h y (row_at (with_row Q x row) y)) (numbers (legs_of I)) + among (departure_of I x (row_at Q x)) a h ≡ count_by (λ y. departs_at I a h y (row_at Q y)) (numbers (legs_of I)) + among (departure_of I x row) a h
departures_change I Q x a h row lt within =
    let R = with_row Q x row in
    omega (
      arith,
      departs_among I a h x (row_at Q x),
      departs_among I a h x (row_at R x) ∙ ap (λ r. among (departure_of I x r) a h) (get_or-set_same Q.rows x row Cancelled within),
      count_change (λ y. departs_at I a h y (row_at R y)) (λ y. departs_at I a h y (row_at Q y)) (legs_of I) x lt (λ y apart. ap (departs_at I a h y) (get_or-set_other Q.rows x y row Cancelled apart)),
    )

pub arrivals_change : (I : Situation) (Q : PlanRows) (x a h : ℕ) (row : Row) → x < legs_of I → x < length Q.rows → count_by (λ y. arrives_at I a h y (row_at (with_row Q x row) y)) (numbers (legs_of I)) + among (arrival_of I x (row_at Q x)) a h ≡ count_by (λ y. arrives_at I a h y (row_at Q y)) (numbers (legs_of I)) + among (arrival_of I x row) a h
arrivals_change I Q x a h row lt within =
    let R = with_row Q x row in
    omega (
      arith,
      arrives_among I a h x (row_at Q x),
      arrives_among I a h x (row_at R x) ∙ ap (λ r. among (arrival_of I x r) a h) (get_or-set_same Q.rows x row Cancelled within),
      count_change (λ y. arrives_at I a h y (row_at R y)) (λ y. arrives_at I a h y (row_at Q y)) (legs_of I) x lt (λ y apart. ap (arrives_at I a h y) (get_or-set_other Q.rows x y row Cancelled apart)),
    )

-- ---- what is counted of the first n legs

few : (p : ℕ → Bool) (n m : ℕ) → m ≡ count_by p (numbers n) → n ≤ 20000 → m ≤ 4000000000
few p n m is most = omega (arith, is, most, count_by-le-length p (numbers n), length-numbers n)

-- none of no legs
pub none_counted : (I : Situation) (Q : PlanRows) → AreCountsOfFirst 0 I Q (record { departures = []; arrivals = [] })
none_counted I Q = record { departures = λ a h. refl; arrivals = λ a h. refl }

one_more : (p : ℕ → Bool) (n : ℕ) → count_by p (numbers (n + 1)) ≡ count_by p (numbers n) + one_if (p n)
one_more p n = rw add-one (sum_by_push (λ y. one_if (p y)) (numbers n) n)

-- the same tables before and after two changes
pub record AreEntered (I : Situation) (n : ℕ) (row : Row) (old new : Counted) : Type 0 where
  pub departures : Enters old.departures new.departures (departure_of I n row)
  pub arrivals : Enters old.arrivals new.arrivals (arrival_of I n row)

-- one leg more is counted
pub one_counted : (I : Situation) (Q : PlanRows) (n : ℕ) (old new : Counted) → n ≤ 20000 → AreCountsOfFirst n I Q old → AreEntered I n (row_at Q n) old new → AreCountsOfFirst (n + 1) I Q new
one_counted I Q n old new most are come = record {
  departures = λ a h.
      let p : ℕ → Bool = λ y. departs_at I a h y (row_at Q y) in
      omega (
        arith,
        come.departures (λ b k. few (λ y. departs_at I b k y (row_at Q y)) n (count_at old.departures b k) (are.departures b k) most) a h,
        are.departures a h,
        one_more p n,
        departs_among I a h n (row_at Q n),
      );
  arrivals = λ a h.
      let p : ℕ → Bool = λ y. arrives_at I a h y (row_at Q y) in
      omega (
        arith,
        come.arrivals (λ b k. few (λ y. arrives_at I b k y (row_at Q y)) n (count_at old.arrivals b k) (are.arrivals b k) most) a h,
        are.arrivals a h,
        one_more p n,
        arrives_among I a h n (row_at Q n),
      );
}

-- a leg has another row: its new one is entered, and then its old one leaves
pub other_counted : (I : Situation) (Q : PlanRows) (x : ℕ) (was row : Row) (old mid new : Counted) → x < legs_of I → legs_of I ≤ 20000 → IsPlanFor I Q → row_at Q x ≡ was → AreCountsOf I Q old → AreEntered I x row old mid → Leaves mid.departures new.departures (departure_of I x was) → Leaves mid.arrivals new.arrivals (arrival_of I x was) → AreCountsOf I (with_row Q x row) new
other_counted I Q x was row old mid new lt most plan here are come departs arrives =
    let within : x < length Q.rows = (let legs = plan.legs in omega (arith, legs, lt)) in
    record {
      departures = λ a h.
          omega (
            arith,
            departs a h,
            come.departures (λ b k. few (λ y. departs_at I b k y (row_at Q y)) (legs_of I) (count_at old.departures b k) (are.departures b k) most) a h,
            are.departures a h,
            departures_change I Q x a h row lt within,
            ap (λ r. among (departure_of I x r) a h) here,
          );
      arrivals = λ a h.
          omega (
            arith,
            arrives a h,
            come.arrivals (λ b k. few (λ y. arrives_at I b k y (row_at Q y)) (legs_of I) (count_at old.arrivals b k) (are.arrivals b k) most) a h,
            are.arrivals a h,
            arrivals_change I Q x a h row lt within,
            ap (λ r. among (arrival_of I x r) a h) here,
          );
    }

-- What is looked up of those who pay, leg by leg.
use Rattle.std.proofs.Common.{◌≡◌, ℕ, ◌≤◌, inl, inr, Bool, cond, List, [], ◌∷◌, refl, sym, ap, ◌∙◌, arith}
use Rattle.std.specs.Prelude.{filter, sum_by}
use Rattle.std.proofs.lemmas.Bool.{cases_Bool}
use Rattle.std.proofs.lemmas.List.Sums.{sum_by-cons}
use Rattle.desk_units.specs.declared.numbers.Leg.{Leg}
use Rattle.desk_data.specs.Situation.{Situation, reservations_of}
use Rattle.desk_data.specs.PlanRows.{PlanRows}
use Rattle.desk_model.specs.Push.{rotation}
use Rattle.near_draft.specs.Legs.{numbers_of}
use Rattle.near_priced.specs.Priced.{paid_on, paid_booked}
use Rattle.near_priced.specs.Tables.{AreAmounts, amount}
use Rattle.near_dear.specs.Restored.{may_move, moved_amount, moved_legs}

pub sum-le : (f g : ℕ → ℕ) (xs : List ℕ) → ((x : ℕ) → f x ≤ g x) → sum_by f xs ≤ sum_by g xs
sum-le f g [] le = omega arith
sum-le f g (x ∷ xs) le = (let rest = sum-le f g xs le in let here = le x in omega (arith, rest, here, sum_by-cons f x xs, sum_by-cons g x xs))

pub numbers-sum : (f : ℕ → ℕ) (legs : List Leg) → sum_by f (numbers_of legs) ≡ sum_by (λ (leg : Leg). f leg.0) legs
numbers-sum f [] = refl
numbers-sum f (leg ∷ legs) = (let rest = numbers-sum f legs in omega (arith, rest, sum_by-cons f leg.0 (numbers_of legs), sum_by-cons (λ (l : Leg). f l.0) leg legs))

-- the amounts of those that pass a test
moved-sum : (I : Situation) (P : PlanRows) (amounts : List ℕ) (at : ℕ) (xs : List ℕ) → sum_by (amount amounts) (filter (may_move I P at) xs) ≡ sum_by (moved_amount I P amounts at) xs
moved-sum I P amounts at [] = refl
moved-sum I P amounts at (x ∷ xs) =
    let rest = moved-sum I P amounts at xs in
    elim (cases_Bool (may_move I P at x)) [
      | inl on ↦
          let here : moved_amount I P amounts at x ≡ amount amounts x = ap (λ (b : Bool). cond b (amount amounts x) 0) on in
          let out : filter (may_move I P at) (x ∷ xs) ≡ x ∷ filter (may_move I P at) xs = rw on refl in
          let all : sum_by (amount amounts) (x ∷ filter (may_move I P at) xs) ≡ sum_by (moved_amount I P amounts at) (x ∷ xs) = omega (arith, rest, here, sum_by-cons (amount amounts) x (filter (may_move I P at) xs), sum_by-cons (moved_amount I P amounts at) x xs) in
          ap (sum_by (amount amounts)) out ∙ all
      | inr off ↦
          let none : moved_amount I P amounts at x ≡ 0 = ap (λ (b : Bool). cond b (amount amounts x) 0) off in
          let out : filter (may_move I P at) (x ∷ xs) ≡ filter (may_move I P at) xs = rw off refl in
          let all : sum_by (amount amounts) (filter (may_move I P at) xs) ≡ sum_by (moved_amount I P amounts at) (x ∷ xs) = omega (arith, rest, none, sum_by-cons (moved_amount I P amounts at) x xs) in
          ap (sum_by (amount amounts)) out ∙ all
    ]

module _ (I : Situation) (P : PlanRows) (on booked : List ℕ) (are : AreAmounts I P on booked (reservations_of I)) where
  pub own-paid : (p at : ℕ) (own : List Leg) → numbers_of own ≡ rotation I P p → sum_by (paid_on I P) (moved_legs I P p at) ≤ sum_by (λ (leg : Leg). moved_amount I P on at leg.0) own
  own-paid p at own is =
      let f : ℕ → ℕ = moved_amount I P on at in
      let same : sum_by f (rotation I P p) ≡ sum_by (λ (leg : Leg). f leg.0) own = ap (sum_by f) (sym is) ∙ numbers-sum f own in
      omega (arith, same, moved-sum I P on at (rotation I P p), sum-le (paid_on I P) (amount on) (moved_legs I P p at) are.on_leg)

  pub booked-paid : (legs : List ℕ) → sum_by (paid_booked I P) legs ≤ sum_by (amount booked) legs
  booked-paid legs = sum-le (paid_booked I P) (amount booked) legs are.booked_on_leg

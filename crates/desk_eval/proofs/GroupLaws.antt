-- Refill, one reservation at a time. Tidy's laws of this kind stand in desk_model.
use Rattle.std.proofs.Common.{◌≡◌, ℕ, ◌+◌, refl, ap, add-one}
use Rattle.std.specs.Prelude.{fold}
use Rattle.std.proofs.lemmas.List.Sums.{fold_push}
use Rattle.desk_data.specs.Situation.{Situation, reservations_of}
use Rattle.desk_data.specs.PlanRows.{PlanRows}
use Rattle.desk_rules.specs.Numbers.{numbers}
use Rattle.desk_model.specs.Refill.{after_refilling, after_refill}

-- the plan once the first n reservations are looked at
unfoldable pub refilled_to : Situation → ℕ → PlanRows → ℕ → PlanRows
refilled_to I n P x = fold (after_refilling I x) P (numbers n)

pub refilled_to-none : (I : Situation) (P : PlanRows) (x : ℕ) → refilled_to I 0 P x ≡ P
unfolding refilled_to
refilled_to-none I P x = refl

pub refilled_to-more : (I : Situation) (n : ℕ) (P : PlanRows) (x : ℕ) → refilled_to I (n + 1) P x ≡ after_refilling I x (refilled_to I n P x) n
unfolding refilled_to
refilled_to-more I n P x = rw add-one (fold_push (after_refilling I x) P (numbers n) n)

pub refilled_to-all : (I : Situation) (P : PlanRows) (n x : ℕ) → n ≡ reservations_of I → refilled_to I n P x ≡ after_refill I P x
unfolding refilled_to after_refill
refilled_to-all I P n x is = ap (λ (k : ℕ). fold (after_refilling I x) P (numbers k)) is

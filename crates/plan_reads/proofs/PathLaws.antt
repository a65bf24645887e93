-- Whether a path connects, one leg at a time.
use Rattle.std.proofs.Common.{◌≡◌, ℕ, ◌+◌, ◌-◌, ◌<◌, ◌≤◌, true, false, inl, inr, List, length, get_or, sym, ap, subst, ◌∙◌, arith}
use Rattle.std.proofs.lemmas.Bool.{false_from_ne_true, true≢false, cases_eq}
use Rattle.std.proofs.lemmas.List.{get_or_default}
use Rattle.desk_units.specs.declared.numbers.Leg.{Leg}
use Rattle.desk_units.specs.declared.numbers.Cabin.{Cabin}
use Rattle.desk_data.specs.Situation.{Situation}
use Rattle.desk_data.specs.PlanRows.{PlanRows}
use Rattle.desk_data.specs.Paths.{no_pair, leg_in}
use Rattle.desk_rules.specs.Passengers.{reaches, connects}
use Rattle.desk_rules.proofs.Tests.{each_below-holds, each_below-from}

-- the legs up to leg i are reached, and there is no further
pub all_reached : (I : Situation) (P : PlanRows) (path : List (Leg × Cabin)) (i : ℕ) → length path ≤ i → ((k : ℕ) → k + 1 < i → reaches I P (leg_in path k) (leg_in path (k + 1)) ≡ true) → true ≡ connects I P path
unfolding connects
all_reached I P path i all h =
    sym (each_below-from (length path - 1) (λ k. reaches I P (leg_in path k) (leg_in path (k + 1))) (λ k lt. h k (omega arith)))

-- leg i is reached from the one before it where the path says so, whatever stands past its end
reaches_at : (I : Situation) (P : PlanRows) (path : List (Leg × Cabin)) (i : ℕ) (d : Leg × Cabin) → i < length path → reaches I P (leg_in path (i - 1)) (leg_in path i) ≡ reaches I P (get_or path (i - 1) d).0.0 (get_or path i d).0.0
reaches_at I P path i d lt =
    ap (λ (x : ℕ). reaches I P x (leg_in path i)) (ap (λ pair. pair.0.0) (get_or_default path (i - 1) no_pair d (omega arith)))
    ∙ ap (λ (y : ℕ). reaches I P (get_or path (i - 1) d).0.0 y) (ap (λ pair. pair.0.0) (get_or_default path i no_pair d lt))

pub one_reached : (I : Situation) (P : PlanRows) (path : List (Leg × Cabin)) (i : ℕ) (d : Leg × Cabin) → i < length path → reaches I P (get_or path (i - 1) d).0.0 (get_or path i d).0.0 ≡ true → ((k : ℕ) → k + 1 < i → reaches I P (leg_in path k) (leg_in path (k + 1)) ≡ true) → (k : ℕ) → k + 1 < i + 1 → reaches I P (leg_in path k) (leg_in path (k + 1)) ≡ true
one_reached I P path i d lt here h k below =
    elim (cases_eq (k + 1) i) [
      | inl same ↦
          let back : i - 1 ≡ k = omega arith in
          let at : reaches I P (leg_in path (i - 1)) (leg_in path i) ≡ true = reaches_at I P path i d lt ∙ here in
          subst (λ (j : ℕ). reaches I P (leg_in path k) (leg_in path j) ≡ true) (sym same) (subst (λ (j : ℕ). reaches I P (leg_in path j) (leg_in path i) ≡ true) back at)
      | inr other ↦ h k (omega arith)
    ]

-- one is not reached
pub one_missed : (I : Situation) (P : PlanRows) (path : List (Leg × Cabin)) (i : ℕ) (d : Leg × Cabin) → 1 ≤ i → i < length path → reaches I P (get_or path (i - 1) d).0.0 (get_or path i d).0.0 ≡ false → false ≡ connects I P path
unfolding connects
one_missed I P path i d up lt missed =
    let on : i - 1 + 1 ≡ i = omega arith in
    sym (false_from_ne_true (connects I P path) (λ h.
    let at : reaches I P (leg_in path (i - 1)) (leg_in path (i - 1 + 1)) ≡ true = each_below-holds (length path - 1) (λ j. reaches I P (leg_in path j) (leg_in path (j + 1))) h (i - 1) (omega arith) in
    true≢false (sym (subst (λ (j : ℕ). reaches I P (leg_in path (i - 1)) (leg_in path j) ≡ true) on at) ∙ reaches_at I P path i d lt ∙ missed)))

-- What the quantifiers over numbers say.
use Rattle.std.proofs.Common.{◌≡◌, ℕ, zero, suc, ◌<◌, ◌⊎◌, inl, inr, Bool, true, false, not, refl, sym, ap, subst, arith}
use Rattle.std.proofs.lemmas.Bool.{and_parts, and_from, not-true, cases_Bool, true≢false}
use Rattle.desk_rules.specs.Numbers.{each_below, none_below, implies}

-- a number below n + 1 is below n, or is n
below_cases : (k n : ℕ) → k < suc n → (k < n) ⊎ (k ≡ n)
below_cases k n h = grind arith

pub each_below-holds : (n : ℕ) (test : ℕ → Bool) → each_below n test ≡ true → (k : ℕ) → k < n → test k ≡ true
each_below-holds zero test h k lt = absurd (omega arith)
each_below-holds (suc n) test h k lt =
    let parts = and_parts (each_below n test) (test n) h in
    elim (below_cases k n lt) [
      | inl less ↦ each_below-holds n test parts.0 k less
      | inr same ↦ subst (λ (j : ℕ). test j ≡ true) (sym same) parts.1
    ]

pub each_below-from : (n : ℕ) (test : ℕ → Bool) → ((k : ℕ) → k < n → test k ≡ true) → each_below n test ≡ true
each_below-from zero test h = refl
each_below-from (suc n) test h =
    and_from (each_below n test) (test n) (each_below-from n test (λ k lt. h k (omega arith))) (h n (omega arith))

pub none_below-holds : (n : ℕ) (test : ℕ → Bool) → none_below n test ≡ true → (k : ℕ) → k < n → test k ≡ false
none_below-holds n test h k lt = not-true (test k) (each_below-holds n (λ j. not (test j)) h k lt)

pub none_below-from : (n : ℕ) (test : ℕ → Bool) → ((k : ℕ) → k < n → test k ≡ true → ⊥) → none_below n test ≡ true
none_below-from n test h = each_below-from n (λ j. not (test j)) (λ k lt.
    elim (cases_Bool (test k)) [
      | inl holds ↦ absurd (h k lt holds)
      | inr fails ↦ ap not fails
    ])

pub implies-holds : (a b : Bool) → implies a b ≡ true → a ≡ true → b ≡ true
implies-holds true b h e = h
implies-holds false b h e = absurd (true≢false (sym e))

pub implies-from : (a b : Bool) → (a ≡ true → b ≡ true) → implies a b ≡ true
implies-from true b h = h refl
implies-from false b h = refl

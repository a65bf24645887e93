-- The first number of a span, and the greatest number up to a limit, of which a test holds.
use Rattle.std.specs.Prelude.{◌≡◌, ℕ, ◌+◌, ◌-◌, ◌<◌, ◌≤◌, ◌⊎◌, Bool, true, false, Option, unwrap_or, map, find, reverse}
use Rattle.desk_rules.specs.Numbers.{numbers}

-- the first number from `low` to `high`, both included, of which the test holds
unfoldable pub first_within : ℕ → ℕ → (ℕ → Bool) → Option ℕ
first_within low high test = find test (map (λ k. low + k) (numbers (high + 1 - low)))

-- the greatest number up to n of which the test holds, or 0 where it holds of none
unfoldable pub greatest_within : ℕ → (ℕ → Bool) → ℕ
greatest_within n test = unwrap_or (find test (reverse (numbers (n + 1)))) 0

-- the number is from `low` to `high`, the test holds of it, and of no lesser number from `low` on
pub record IsFirstWithin (low high : ℕ) (test : ℕ → Bool) (t : ℕ) : Type 0 where
  pub from : low ≤ t
  pub to : t ≤ high
  pub holds : test t ≡ true
  pub first : (s : ℕ) → low ≤ s → s < t → test s ≡ false

-- the test holds of no number from `low` to `high`
abbrev pub HoldsOfNone : ℕ → ℕ → (ℕ → Bool) → Type 0
HoldsOfNone low high test = (s : ℕ) → low ≤ s → s ≤ high → test s ≡ false

-- the number is at most n, the test holds of it unless it is 0, and of no greater number up to n
pub record IsGreatestWithin (n : ℕ) (test : ℕ → Bool) (k : ℕ) : Type 0 where
  pub to : k ≤ n
  pub holds : (k ≡ 0) ⊎ (test k ≡ true)
  pub greatest : (j : ℕ) → k < j → j ≤ n → test j ≡ false

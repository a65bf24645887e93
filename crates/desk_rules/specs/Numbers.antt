-- Quantifiers over the numbers below n, as tests.
use Rattle.std.specs.Prelude.{ℕ, zero, suc, Bool, true, ◌&&◌, ◌||◌, not, List, [], ◌∷◌, ◌++◌}

-- the numbers below n, in order
abbrev pub numbers : ℕ → List ℕ
numbers zero = []
numbers (suc n) = numbers n ++ n ∷ []

-- the test holds of each number below n
abbrev pub each_below : ℕ → (ℕ → Bool) → Bool
each_below zero test = true
each_below (suc n) test = each_below n test && test n

-- the test holds of no number below n
abbrev pub none_below : ℕ → (ℕ → Bool) → Bool
none_below n test = each_below n (λ k. not (test k))

-- where the first holds, so does the second
abbrev pub implies : Bool → Bool → Bool
implies a b = not a || b

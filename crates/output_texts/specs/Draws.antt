-- The numbers that are drawn: the words of the generator xoshiro256++, one after another.
use Rattle.std.specs.Prelude.{ℕ, zero, suc, ◌%◌, List, [], ◌∷◌, ◌++◌}
use Rattle.rand_xoshiro.specs.SplitMix64.{splitmix_seed}
use Rattle.rand_xoshiro.specs.Xoshiro256.{plus_plus, of_seed}

-- a state of the generator is a list of four words; it gives one word, and the state after it
unfoldable pub word_of : List ℕ → ℕ
word_of state = (plus_plus state).0

unfoldable pub next_state : List ℕ → List ℕ
next_state state = (plus_plus state).1

-- the state that a seed gives
unfoldable pub seeded : ℕ → List ℕ
seeded seed = of_seed (splitmix_seed 32 seed)

-- the state after so many words
unfoldable pub state_after : List ℕ → ℕ → List ℕ
state_after state zero = state
state_after state (suc k) = next_state (state_after state k)

-- the draw of number k, from 0, that a state gives, of a number below n: word k modulo n
unfoldable pub draw : List ℕ → ℕ → ℕ → ℕ
draw state k n = word_of (state_after state k) % n

-- the numbers below n, in order
abbrev pub numbers : ℕ → List ℕ
numbers zero = []
numbers (suc n) = numbers n ++ n ∷ []

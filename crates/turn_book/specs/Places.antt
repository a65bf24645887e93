-- The places of entries in a history, in ascending lists.
use Rattle.std.specs.Prelude.{◌≡◌, ℕ, ◌<◌, ◌==◌, ◌||◌, Bool, true, false, cond, nat_lt, List, [], ◌∷◌}

-- the place is in the list
abbrev pub has : ℕ → List ℕ → Bool
has k [] = false
has k (x ∷ xs) = (k == x) || has k xs

-- the place is before each of the list
abbrev pub IsBeforeAll : ℕ → List ℕ → Type 0
IsBeforeAll k xs = (j : ℕ) → has j xs ≡ true → k < j

-- each place is before those after it
abbrev pub Ascends : List ℕ → Type 0
Ascends [] = Unit {0}
Ascends (x ∷ xs) = IsBeforeAll x xs × Ascends xs

-- the place in front of the first that is after it
abbrev pub insert : ℕ → List ℕ → List ℕ
insert k [] = k ∷ []
insert k (x ∷ xs) = cond (nat_lt k x) (k ∷ x ∷ xs) (x ∷ insert k xs)

-- the places of both lists, ascending
abbrev pub merge : List ℕ → List ℕ → List ℕ
merge [] ys = ys
merge (x ∷ xs) ys = insert x (merge xs ys)

-- no place is in both lists
abbrev pub AreApart : List ℕ → List ℕ → Type 0
AreApart xs ys = (k : ℕ) → has k xs ≡ true → has k ys ≡ false

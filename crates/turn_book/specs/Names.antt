-- A pass is named by its path of splits: the one that a turn is opened with has the empty path, and the k-th split from a pass has that pass's path followed by k.
use Rattle.std.specs.Prelude.{◌≡◌, ℕ, ◌==◌, ◌||◌, ◌&&◌, Bool, true, false, cond, List, [], ◌∷◌, ◌++◌}

abbrev pub Name : Type 0
Name = List ℕ

abbrev pub same_name : Name → Name → Bool
same_name [] [] = true
same_name [] (y ∷ ys) = false
same_name (x ∷ xs) [] = false
same_name (x ∷ xs) (y ∷ ys) = (x == y) && same_name xs ys

-- the name is among these
abbrev pub knows : Name → List Name → Bool
knows n [] = false
knows n (m ∷ ms) = same_name n m || knows n ms

-- the name was split from one of these
abbrev pub IsChild : List Name → Name → Type 0
IsChild names n = (p : Name) × (k : ℕ) × (n ≡ p ++ k ∷ []) × (knows p names ≡ true)

-- those that are not among the names
abbrev pub without : List Name → List Name → List Name
without names [] = []
without names (n ∷ ns) = cond (knows n names) (without names ns) (n ∷ without names ns)

-- What a run leaves for the next one.
use Rattle.std.specs.Prelude.{◌≡◌, ℕ, ◌≤◌, List, ◌∷◌, ◌++◌, length, Option, Some, None}
use Rattle.desk_disk.specs.Files.{IsWhole}

-- a payload, where there is one, before others
abbrev pub before_others : Option (List ℕ) → List (List ℕ) → List (List ℕ)
before_others None rest = rest
before_others (Some payload) rest = payload ∷ rest

-- a whole file with the first of these payloads, in their order, and at least n of them; where one more stands behind its records,
-- that is the next of these. So it opens as the first of them, and opening it may be stopped too
pub record HoldsBeginning (all : List (List ℕ)) (n : ℕ) (c : List ℕ) : Type 0 where
  pub front : List (List ℕ)
  pub next : Option (List ℕ)
  pub rest : List (List ℕ)
  pub is : all ≡ front ++ before_others next rest
  pub least : n ≤ length front
  pub whole : IsWhole front next c

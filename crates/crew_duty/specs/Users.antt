-- Which crews have each leg.
use Rattle.std.specs.Prelude.{◌≡◌, ℕ, Bool, ◌&&◌, nat_lt, ◌==◌, List, [], length, slice_index_or}
use Rattle.std.specs.List.{list_any}
use Rattle.crew_rules.specs.declared.crew.CrewInfo.{CrewInfo}
use Rattle.crew_rules.specs.Broken.{crew_at}

-- whether leg x is one of the legs of crew k
abbrev pub has_leg : List CrewInfo → ℕ → ℕ → Bool
has_leg cs x k = list_any (λ leg. leg.0 == x) (crew_at cs k).legs

-- the crews that are kept for leg x, and whether crew k is one of them
abbrev pub users_at : List (List ℕ) → ℕ → List ℕ
users_at legs x = slice_index_or legs x []

abbrev pub has_user : List (List ℕ) → ℕ → ℕ → Bool
has_user legs x k = list_any (λ user. user == k) (users_at legs x)

-- for each leg the crews that have it are kept, and no others
abbrev pub AreUsers : List CrewInfo → List (List ℕ) → Type 0
AreUsers cs legs = (x k : ℕ) → has_user legs x k ≡ (nat_lt k (length cs) && has_leg cs x k)

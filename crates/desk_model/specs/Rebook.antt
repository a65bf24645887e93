-- Rebook: some passengers of a reservation go from one path to another.
use Rattle.std.specs.Prelude.{◌≡◌, ℕ, ◌+◌, ◌-◌, min, Bool, ◌==◌, if◌then◌else◌, List, [], ◌∷◌, ◌++◌, filter, sum_by}
use Rattle.std.specs.Ordering.{is_lt, is_gt}
use Rattle.desk_units.specs.declared.numbers.Leg.{Leg}
use Rattle.desk_units.specs.declared.numbers.Cabin.{Cabin}
use Rattle.desk_data.specs.declared.row.Group.{Group}
use Rattle.desk_data.specs.PlanRows.{PlanRows, groups_at, with_groups, path_cmp, same_path}

-- the passengers of some groups whose path passes a test
abbrev pub passengers_on : (List (Leg × Cabin) → Bool) → List Group → ℕ
passengers_on test groups = sum_by (λ group. if test group.path then group.count else 0) groups

-- the passengers on one path
abbrev pub count_on : List (Leg × Cabin) → List Group → ℕ
count_on path groups = passengers_on (λ other. same_path other path) groups

-- whether a group's path comes before a path, or after it
abbrev pub is_before : List (Leg × Cabin) → Group → Bool
is_before path group = is_lt (path_cmp group.path path)

abbrev pub is_after : List (Leg × Cabin) → Group → Bool
is_after path group = is_gt (path_cmp group.path path)

-- the group of n passengers on a path; there is none where n is 0
abbrev pub group_of : ℕ → List (Leg × Cabin) → List Group
group_of n path = if n == 0 then [] else (let group : Group = record { count = n; path = path } in group ∷ [])

-- the groups with n passengers on a path, between the groups before it and those after it
abbrev pub with_count : List (Leg × Cabin) → ℕ → List Group → List Group
with_count path n groups = filter (is_before path) groups ++ (group_of n path ++ filter (is_after path) groups)

-- n passengers leave a path, n come to a path, and both
abbrev pub with_fewer : List (Leg × Cabin) → ℕ → List Group → List Group
with_fewer path n groups = with_count path (count_on path groups - n) groups

abbrev pub with_more : List (Leg × Cabin) → ℕ → List Group → List Group
with_more path n groups = with_count path (count_on path groups + n) groups

unfoldable pub groups_after_rebook : List (Leg × Cabin) → List (Leg × Cabin) → ℕ → List Group → List Group
groups_after_rebook path to n groups = with_more to n (with_fewer path n groups)

-- Rebook: as many passengers of reservation r as it names go from one path to another, or all that are on it where they are fewer
unfoldable pub after_rebook : PlanRows → ℕ → List (Leg × Cabin) → List (Leg × Cabin) → ℕ → PlanRows
after_rebook P r path to count =
    let groups = groups_at P r in
    with_groups P r (groups_after_rebook path to (min count (count_on path groups)) groups)

-- n passengers of reservation r go from one path to another: whatever paths are looked at, there are n fewer on them where they have the one among them, and n more where they have the other. No leg's row changes, and no other reservation's groups
pub record RebooksPassengers (P Q : PlanRows) (r : ℕ) (path to : List (Leg × Cabin)) (n : ℕ) : Type 0 where
  pub rows : Q.rows ≡ P.rows
  pub others : (s : ℕ) → (s ≡ r → ⊥) → groups_at Q s ≡ groups_at P s
  pub going : (test : List (Leg × Cabin) → Bool) → passengers_on test (groups_at Q r) + (if test path then n else 0) ≡ passengers_on test (groups_at P r) + (if test to then n else 0)

-- A plan: one row for each leg, and for each reservation its groups of passengers.
use Rattle.std.specs.Prelude.{◌≡◌, ℕ, ◌<◌, ◌≤◌, Bool, List, length, All, slice_index_or, slice_set, []}
use Rattle.std.specs.List.{AllPairs}
use Rattle.std.specs.Ordering.{nat_cmp, ordering_then, is_eq}
use Rattle.std.specs.Cmp.Lexicographic.{slice_cmp}
use Rattle.std.specs.declared.cmp.Ordering.{Ordering}
use Rattle.std.specs.declared.cmp.Ordering.TheVariants.{Less}
use Rattle.desk_units.specs.declared.numbers.Leg.{Leg}
use Rattle.desk_units.specs.declared.numbers.Cabin.{Cabin}
use Rattle.desk_units.specs.Ranks.{cabin_rank}
use Rattle.desk_data.specs.declared.row.Row.{Row}
use Rattle.desk_data.specs.declared.row.Row.TheVariants.{Flown, Cancelled}
use Rattle.desk_data.specs.declared.row.Group.{Group}

pub record PlanRows : Type 0 where
  pub rows : List Row
  pub groups : List (List Group)

-- the row of leg x; out of range it is cancelled
abbrev pub row_at : PlanRows → ℕ → Row
row_at P x = slice_index_or P.rows x Cancelled

-- the groups of reservation r
abbrev pub groups_at : PlanRows → ℕ → List Group
groups_at P r = slice_index_or P.groups r []

-- the plan with another row for leg x, and with other groups for reservation r
abbrev pub with_row : PlanRows → ℕ → Row → PlanRows
with_row P x row = record P { rows = slice_set P.rows x row }

abbrev pub with_groups : PlanRows → ℕ → List Group → PlanRows
with_groups P r groups = record P { groups = slice_set P.groups r groups }

-- pairs of leg and cabin are ordered by leg, then by cabin
abbrev pub pair_cmp : Leg × Cabin → Leg × Cabin → Ordering
pair_cmp a b = ordering_then (nat_cmp a.0.0 b.0.0) (nat_cmp (cabin_rank a.1) (cabin_rank b.1))

-- paths are ordered as lists of pairs, a proper prefix first
abbrev pub path_cmp : List (Leg × Cabin) → List (Leg × Cabin) → Ordering
path_cmp a b = slice_cmp pair_cmp a b

-- whether two paths are one
abbrev pub same_path : List (Leg × Cabin) → List (Leg × Cabin) → Bool
same_path a b = is_eq (path_cmp a b)

-- a departure is below 52,500,000
abbrev pub IsRow : Row → Type 0
IsRow (Flown plane dep) = dep.0 < 52500000
IsRow Cancelled = Unit {0}

-- a group has passengers, and its path at most 8 legs
pub record IsGroup (group : Group) : Type 0 where
  pub some : 1 ≤ group.count
  pub short : length group.path ≤ 8

-- the groups of a reservation ascend by path, no path twice
pub record AreGroups (groups : List Group) : Type 0 where
  pub each : All IsGroup groups
  pub ascending : AllPairs (λ a b. path_cmp a.path b.path ≡ Less) groups

-- what every plan keeps
pub record IsSound (P : PlanRows) : Type 0 where
  pub rows : All IsRow P.rows
  pub groups : All AreGroups P.groups

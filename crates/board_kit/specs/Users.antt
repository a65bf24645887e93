-- Which reservations use each leg.
use Rattle.std.specs.Prelude.{◌≡◌, ℕ, ◌<◌, Bool, true, ◌&&◌, ◌||◌, not, ◌==◌, List, [], length, sum_by, count_by, slice_index_or}
use Rattle.std.specs.List.{list_any}
use Rattle.desk_units.specs.declared.numbers.Res.{Res}
use Rattle.desk_data.specs.declared.row.Group.{Group}
use Rattle.desk_data.specs.Booked.{booked_path}
use Rattle.desk_data.specs.Situation.{Situation}
use Rattle.desk_data.specs.PlanRows.{PlanRows, groups_at}

-- whether the path of a group has leg x
abbrev pub has_leg : ℕ → Group → Bool
has_leg x group = list_any (λ pair. pair.0.0 == x) group.path

-- how many groups of a plan have leg x in their path
unfoldable pub users : PlanRows → ℕ → ℕ
users P x = sum_by (λ groups. count_by (has_leg x) groups) P.groups

-- whether leg x is used by reservation r: a group of it has the leg in its path
abbrev pub uses : PlanRows → ℕ → ℕ → Bool
uses P x r = list_any (has_leg x) (groups_at P r)

-- whether the scheduled path of reservation r has leg x
abbrev pub is_booked_on : Situation → ℕ → ℕ → Bool
is_booked_on I x r = list_any (λ pair. pair.0.0 == x) (booked_path I r)

-- the reservations that are kept for leg x, and whether reservation r is one of them
abbrev pub users_at : List (List Res) → ℕ → List Res
users_at legs x = slice_index_or legs x []

abbrev pub has_user : List (List Res) → ℕ → ℕ → Bool
has_user legs x r = list_any (λ res. res.0 == r) (users_at legs x)

-- for each leg those that use it are kept, and no number beyond the reservations
pub record HasUsers (P : PlanRows) (kept : ℕ → ℕ → Bool) : Type 0 where
  pub whole : (x r : ℕ) → uses P x r ≡ true → kept x r ≡ true
  pub within : (x r : ℕ) → kept x r ≡ true → r < length P.groups

-- one reservation of one leg more, and one less
abbrev pub with_user : ℕ → ℕ → (ℕ → ℕ → Bool) → ℕ → ℕ → Bool
with_user x r kept y s = kept y s || ((y == x) && (s == r))

abbrev pub without_user : ℕ → ℕ → (ℕ → ℕ → Bool) → ℕ → ℕ → Bool
without_user x r kept y s = kept y s && not ((y == x) && (s == r))

-- Groups whose cost is bounded.
use Rattle.std.specs.Prelude.{ℕ, ◌≤◌, List, length}
use Rattle.desk_units.specs.declared.numbers.Leg.{Leg}
use Rattle.desk_units.specs.declared.numbers.Cabin.{Cabin}
use Rattle.desk_data.specs.declared.row.Group.{Group}
use Rattle.desk_data.specs.Situation.{Situation, legs_of}
use Rattle.desk_data.specs.Valid.{IsPathOf}

-- a group of at most 1,000 passengers, on at most 8 of the legs
pub record IsGroupOf (I : Situation) (group : Group) : Type 0 where
  pub few : group.count ≤ 1000
  pub short : length group.path ≤ 8
  pub path_of : IsPathOf (legs_of I) group.path

-- so many passengers on a path
abbrev pub group_on : List (Leg × Cabin) → ℕ → Group
group_on path count = record { count = count; path = path }

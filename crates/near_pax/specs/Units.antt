-- The paths with passengers that are left.
use Rattle.std.specs.Prelude.{ℕ, ◌+◌, ◌%◌, ◌==◌, nat_lt, Bool, ◌&&◌, length, if◌then◌else◌, List, [], ◌++◌, drop, map, slice_index_or}
use Rattle.std.specs.List.{flat_map}
use Rattle.desk_units.specs.declared.numbers.Leg.{Leg}
use Rattle.desk_units.specs.declared.numbers.Cabin.{Cabin}
use Rattle.desk_data.specs.declared.row.Group.{Group}
use Rattle.desk_data.specs.Situation.{Situation, reservations_of}
use Rattle.desk_data.specs.PlanRows.{PlanRows, groups_at}
use Rattle.desk_rules.specs.Numbers.{numbers}
use Rattle.near_moves.specs.Units.{MoveUnit, rebooked}
use Rattle.near_pax.specs.declared.units.PaxUnits.{PaxUnits}

-- a group of nothing
unfoldable pub no_group : Group
no_group = record { count = 0; path = [] }

-- the group at a place among those of reservation r, its path, and the unit of that path
abbrev pub group_at : PlanRows → ℕ → ℕ → Group
group_at P r place = slice_index_or (groups_at P r) place no_group

abbrev pub path_at : PlanRows → ℕ → ℕ → List (Leg × Cabin)
path_at P r place = (group_at P r place).path

abbrev pub unit_at : PlanRows → ℕ → ℕ → MoveUnit
unit_at P r place = rebooked r (path_at P r place)

-- the units of reservation r, if it is of the shard
abbrev pub units_of : PlanRows → ℕ → ℕ → ℕ → List MoveUnit
units_of P s n r = if (r % n) == s then map (λ (group : Group). rebooked r group.path) (groups_at P r) else []

-- those that are left of one reservation, and those of all later ones
unfoldable pub left_units : Situation → PlanRows → PaxUnits → List MoveUnit
left_units I P u = drop u.place (units_of P u.shard u.shards u.res) ++ flat_map (units_of P u.shard u.shards) (drop (u.res + 1) (numbers (reservations_of I)))

-- whether reservation r is of the shard, and has a path at the place
abbrev pub has_path : PlanRows → PaxUnits → ℕ → Bool
has_path P u r = ((r % u.shards) == u.shard) && nat_lt u.place (length (groups_at P r))

-- What a step makes of the groups of one reservation.
use Rattle.std.specs.Prelude.{ℕ, Bool, not, if◌then◌else◌, List, Option, Some, None, sum_by}
use Rattle.std.specs.declared.alloc.Global.{Global}
use Rattle.std.specs.declared.vec.Vec.{Vec}
use Rattle.desk_units.specs.declared.numbers.Leg.{Leg}
use Rattle.desk_units.specs.declared.numbers.Cabin.{Cabin}
use Rattle.desk_data.specs.declared.row.Group.{Group}
use Rattle.desk_data.specs.Situation.{Situation, legs_of, res_at}
use Rattle.desk_data.specs.PlanRows.{PlanRows, AreGroups}
use Rattle.desk_data.specs.Valid.{AreGroupsOf}
use Rattle.desk_model.specs.Rebook.{passengers_on, is_before, is_after}
use Rattle.desk_model.specs.Tidy.{stays_carried}
use Rattle.desk_model.specs.Refill.{is_refilled, refill_count}
use Rattle.plan_reads.specs.declared.made.Side.{Side}
use Rattle.plan_reads.specs.declared.made.Side.TheVariants.{Before, After}

-- the groups that were made, or those before where none were
abbrev pub groups_or : List Group → Option (Vec Group Global) → List Group
groups_or before None = before
groups_or before (Some made) = made.items

-- these can be the groups of reservation r: they ascend by path, and all its passengers are among them
pub record AreWhole (I : Situation) (r : ℕ) (groups : List Group) : Type 0 where
  pub sound : AreGroups groups
  pub all : AreGroupsOf (legs_of I) (res_at I r).count groups

-- all passengers of some groups
abbrev pub everyone : List Group → ℕ
everyone groups = sum_by (λ group. group.count) groups

-- whether a group's path stands on a side of a path
abbrev pub is_on_side : Side → List (Leg × Cabin) → Group → Bool
is_on_side Before path group = is_before path group
is_on_side After path group = is_after path group

-- the passengers of some groups who are on no path that stays carried in a Tidy
abbrev pub leaving : Situation → PlanRows → ℕ → List Group → ℕ
leaving I P r groups = passengers_on (λ path. not (stays_carried I P r path)) groups

-- how many of reservation r's passengers a Refill of leg x carries again
unfoldable pub going_back : Situation → PlanRows → ℕ → ℕ → ℕ
going_back I P x r = if is_refilled I P x r then refill_count I P r else 0

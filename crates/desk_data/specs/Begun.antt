-- What passengers have begun and flown, and what they are bound to.
use Rattle.std.specs.Prelude.{◌≡◌, ℕ, ◌≤◌, Bool, ◌&&◌, if◌then◌else◌, List, ◌++◌, take, sum_by}
use Rattle.desk_units.specs.declared.numbers.Leg.{Leg}
use Rattle.desk_units.specs.declared.numbers.Cabin.{Cabin}
use Rattle.desk_data.specs.declared.row.Group.{Group}
use Rattle.desk_data.specs.Booked.{booked_path}
use Rattle.desk_data.specs.Paths.{is_carried}
use Rattle.desk_data.specs.Situation.{Situation, begun, gone, tallied, carried_gone}

-- a path is the legs of the booked path that have begun, in their cabins, and a rest
pub record BeginsAsBegun (I : Situation) (r : ℕ) (path : List (Leg × Cabin)) : Type 0 where
  pub rest : List (Leg × Cabin)
  pub whole : path ≡ take (begun I r) (booked_path I r) ++ rest

-- some passengers have flown just those legs of a path that have left, and no more of these groups are carried so than have
pub record HasRoomBehind (I : Situation) (r : ℕ) (groups : List Group) (path : List (Leg × Cabin)) : Type 0 where
  pub some : 1 ≤ tallied I r (gone I path)
  pub room : carried_gone I.progress.frozen groups (gone I path) ≤ tallied I r (gone I path)

-- a path keeps to what has left, beside these groups
pub record KeepsToLeft (I : Situation) (r : ℕ) (groups : List Group) (path : List (Leg × Cabin)) : Type 0 where
  pub begins : BeginsAsBegun I r path
  pub room : HasRoomBehind I r groups path

-- the passengers of some groups who are carried on paths that pass a test
abbrev pub carried_on : (List (Leg × Cabin) → Bool) → List Group → ℕ
carried_on test groups = sum_by (λ group. if is_carried group.path && test group.path then group.count else 0) groups

-- of some groups no more are carried than of others, whichever paths are counted
abbrev pub AreNoMoreCarried : List Group → List Group → Type 0
AreNoMoreCarried fewer more = (test : List (Leg × Cabin) → Bool) → carried_on test fewer ≤ carried_on test more

-- Tidy: passengers on paths that break a rule are no longer carried.
use Rattle.std.specs.Prelude.{◌≡◌, ℕ, Bool, true, false, ◌&&◌, not, List, [], ◌++◌, filter, map, All}
use Rattle.desk_units.specs.declared.numbers.Leg.{Leg}
use Rattle.desk_units.specs.declared.numbers.Cabin.{Cabin}
use Rattle.desk_data.specs.declared.row.Group.{Group}
use Rattle.desk_data.specs.Begun.{KeepsToLeft}
use Rattle.desk_data.specs.Situation.{Situation, reservations_of, bound}
use Rattle.desk_data.specs.PlanRows.{PlanRows, groups_at}
use Rattle.desk_rules.specs.Numbers.{numbers}
use Rattle.desk_data.specs.Paths.{is_carried}
use Rattle.desk_rules.specs.Carriage.{is_good_path, is_in_time_path}
use Rattle.desk_rules.specs.Words.{IsFlown, TakesThere, ArrivesInTime, MeetsC13, MeetsC14, MeetsC15}
use Rattle.desk_model.specs.Rebook.{passengers_on, count_on, group_of}

-- whether a path meets C13, C14 and C15 for passengers of reservation r
unfoldable pub is_fit_path : Situation → PlanRows → ℕ → List (Leg × Cabin) → Bool
is_fit_path I P r path = is_good_path I P r path && is_in_time_path I P r path && bound I r (groups_at P r) path

-- whether passengers of reservation r are carried on a path that meets them
abbrev pub stays_carried : Situation → PlanRows → ℕ → List (Leg × Cabin) → Bool
stays_carried I P r path = is_carried path && is_fit_path I P r path

-- the groups of reservation r: everyone else not carried, then those that stay carried as they are. The empty path comes first
unfoldable pub groups_after_tidy : Situation → PlanRows → ℕ → List Group
groups_after_tidy I P r =
    group_of (passengers_on (λ path. not (stays_carried I P r path)) (groups_at P r)) []
    ++ filter (λ group. stays_carried I P r group.path) (groups_at P r)

-- Tidy: each reservation, its paths as they stand at the step's start
unfoldable pub after_tidy : Situation → PlanRows → PlanRows
after_tidy I P = record P { groups = map (groups_after_tidy I P) (numbers (reservations_of I)) }

-- the path meets them in words: it takes passengers of reservation r where they want to go, arrives in time where all its legs are flown, and keeps to what has left
pub record IsFit (I : Situation) (P : PlanRows) (r : ℕ) (path : List (Leg × Cabin)) : Type 0 where
  pub there : TakesThere I P r path
  pub in_time : All (λ pair. IsFlown P pair.0.0) path → ArrivesInTime I P r path
  pub keeps : KeepsToLeft I r (groups_at P r) path

-- what a Tidy makes of reservation r, of plan P before the step and plan Q after it
pub record TidiesReservation (I : Situation) (P Q : PlanRows) (r : ℕ) : Type 0 where
  -- the passengers on a carried path that meets C13, C14 and C15 stay, and there are none on any other carried path
  pub stay : (path : List (Leg × Cabin)) → stays_carried I P r path ≡ true → count_on path (groups_at Q r) ≡ count_on path (groups_at P r)
  pub leave : (path : List (Leg × Cabin)) → is_carried path ≡ true → is_fit_path I P r path ≡ false → count_on path (groups_at Q r) ≡ 0
  -- so what is carried then meets the three rules
  pub c13 : MeetsC13 I Q r
  pub c14 : MeetsC14 I Q r
  pub c15 : MeetsC15 I Q r

-- From when on hours have room for whatever two aircraft do, so that a Push finds a moment at once and their legs are over before the window ends.
use Rattle.std.specs.Prelude.{◌≡◌, ℕ, ◌+◌, ◌*◌, ◌<◌, ◌≤◌, true, max, Option, Some, None, List, ◌++◌, length, sum_by, All}
use Rattle.desk_data.specs.declared.info.Maint.{Maint}
use Rattle.desk_data.specs.Situation.{Situation, legs_of, leg_at, plane_at, spans}
use Rattle.desk_data.specs.Hours.{dep_cap, arr_cap}
use Rattle.desk_data.specs.PlanRows.{PlanRows}
use Rattle.desk_rules.specs.Maintenance.{flies}
use Rattle.desk_rules.specs.Rotations.{dep}
use Rattle.desk_model.specs.Push.{rotation, departures_beside, arrivals_beside}

-- an hour in which so many legs are has room for more than so many beside them, if it has a cap
abbrev pub HasRoomFor : ℕ → ℕ → Option ℕ → Type 0
HasRoomFor more taken None = Unit {0}
HasRoomFor more taken (Some cap) = more + taken < cap

-- whether hour h lies between moment c and the window's end, at least in part
pub record IsBetween (I : Situation) (c h : ℕ) : Type 0 where
  pub from : c < 60 * h + 60
  pub to : 60 * h < I.parts.to.0

-- from moment c until the window's end each hour of airport a has room for more than so many legs beside those of the plan
pub record IsCalmAt (most : ℕ) (I : Situation) (P : PlanRows) (a c : ℕ) : Type 0 where
  pub departures : (x h : ℕ) → IsBetween I c h → HasRoomFor most (departures_beside I P x a h) (dep_cap I a h)
  pub arrivals : (x h : ℕ) → IsBetween I c h → HasRoomFor most (arrivals_beside I P x a h) (arr_cap I a h)

-- so it is at the airports that leg x leaves and reaches
pub record IsCalmFor (most : ℕ) (I : Situation) (P : PlanRows) (c x : ℕ) : Type 0 where
  pub origin : IsCalmAt most I P (leg_at I x).origin.0 c
  pub dest : IsCalmAt most I P (leg_at I x).dest.0 c

-- from moment c on aircraft p is in service, and at no maintenance
pub record IsFreeFrom (I : Situation) (p c : ℕ) : Type 0 where
  pub service : All (λ span. span.1.0 ≤ c) (spans I p)
  pub maintenance : (maint : Maint) → (plane_at I p).maint ≡ Some maint → maint.to.0 ≤ c

-- how many minutes an aircraft stands at most between two legs before it may depart
abbrev pub ground : Situation → ℕ → ℕ
ground I p = max (plane_at I p).turnaround (plane_at I p).transit

-- the legs of two aircraft, and how many minutes they take at most, one after another, with the time on the ground
abbrev pub both : Situation → PlanRows → ℕ → ℕ → List ℕ
both I P p q = rotation I P p ++ rotation I P q

abbrev pub busy : Situation → PlanRows → ℕ → ℕ → ℕ
busy I P p q = sum_by (λ x. (leg_at I x).block + max (ground I p) (ground I q)) (both I P p q)

-- each leg of aircraft p departs at moment c or before it
abbrev pub DepartsBy : Situation → PlanRows → ℕ → ℕ → Type 0
DepartsBy I P p c = (x : ℕ) → x < legs_of I → flies P p x ≡ true → dep P x ≤ c

-- all legs of two aircraft depart by moment c, from which on there is room for all of them at their airports, and both are free; and if all were still to come then, one after another, they would be over before the window ends
pub record AreDoneInTime (I : Situation) (P : PlanRows) (p q c : ℕ) : Type 0 where
  pub calm : All (IsCalmFor (length (both I P p q)) I P c) (both I P p q)
  pub free : IsFreeFrom I p c
  pub other_free : IsFreeFrom I q c
  pub departs : DepartsBy I P p c
  pub other_departs : DepartsBy I P q c
  pub done : c + busy I P p q < I.parts.to.0

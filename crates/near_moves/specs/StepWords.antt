-- Of what the moves that retime, exchange, restore, hand on and rebook are made, in words.
use Rattle.std.specs.Prelude.{◌≡◌, ◌≢◌, ℕ, ◌+◌, ◌<◌, ◌≤◌, false, Some, None, List, [], ◌∷◌, ◌++◌, map, max}
use Rattle.desk_units.specs.declared.numbers.Leg.{Leg}
use Rattle.desk_units.specs.declared.numbers.Cabin.{Cabin}
use Rattle.desk_data.specs.declared.row.Row.TheVariants.{Cancelled}
use Rattle.desk_data.specs.Situation.{Situation, legs_of, leg_at, plane_at, earliest, fixed, called_off}
use Rattle.desk_data.specs.PlanRows.{PlanRows, row_at, groups_at}
use Rattle.plan_moves.specs.declared.moves.Step.{Step}
use Rattle.plan_moves.specs.declared.moves.Step.TheVariants.{Set, Push, Swap, Tidy, Refill, Rebook}
use Rattle.desk_rules.specs.Rotations.{dep}
use Rattle.desk_model.specs.Rebook.{count_on}
use Rattle.near_moves.specs.MoveParts.{leg, plane, minute, flown_row, run}
use Rattle.near_moves.specs.Words.{DepartsOneAt}
use Rattle.near_moves.specs.NeighbourhoodWords.{IsAim, IsPortion}

-- a leg that departs at moment d may depart at its earliest departure instead, where that is before d, or 15, 30, 60, 120 or 240 minutes later
pub data IsOtherDeparture (I : Situation) (x d t : ℕ) : Type 0 where
  at_earliest : earliest I x < d → t ≡ earliest I x → IsOtherDeparture I x d t
  later_by_15 : t ≡ d + 15 → IsOtherDeparture I x d t
  later_by_30 : t ≡ d + 30 → IsOtherDeparture I x d t
  later_by_60 : t ≡ d + 60 → IsOtherDeparture I x d t
  later_by_120 : t ≡ d + 120 → IsOtherDeparture I x d t
  later_by_240 : t ≡ d + 240 → IsOtherDeparture I x d t

-- the leg that aircraft p flies at moment d departs at another; the legs after it are pushed, and then a Tidy and a Refill of it
pub record IsRetiming (I : Situation) (P : PlanRows) (x p d : ℕ) (steps : List Step) : Type 0 where
  pub at : ℕ
  pub other : IsOtherDeparture I x d at
  pub all : steps ≡ Set (leg x) (flown_row p d) (flown_row p at) ∷ Push (plane p) (Some (leg x)) ∷ Tidy ∷ Refill (leg x) ∷ []

-- aircraft p and q exchange their legs from a moment on at which a movable leg of one of them departs; the movable legs of p are pushed, then those of q, and then a Tidy
pub record IsExchange (I : Situation) (P : PlanRows) (p q : ℕ) (steps : List Step) : Type 0 where
  pub at : ℕ
  pub departs : DepartsOneAt I P p q at
  pub all : steps ≡ Swap (plane p) (plane q) (minute at) ∷ Push (plane p) None ∷ Push (plane q) None ∷ Tidy ∷ []

-- the k legs from leg x on go from aircraft p to aircraft q, in their order and each at its time; the movable legs of q are pushed, then those of p, and then a Tidy
pub record IsHanding (I : Situation) (P : PlanRows) (x k p q : ℕ) (steps : List Step) : Type 0 where
  pub all : steps ≡ map (λ y. Set (leg y) (flown_row p (dep P y)) (flown_row q (dep P y))) (run I P x k) ++ Push (plane q) None ∷ Push (plane p) None ∷ Tidy ∷ []

-- passengers on a path go to an aim that isn't that path, all or a power of two below all
pub record IsRebooking (I : Situation) (P : PlanRows) (r : ℕ) (path : List (Leg × Cabin)) (steps : List Step) : Type 0 where
  pub aim : List (Leg × Cabin)
  pub count : ℕ
  pub goes : IsAim I P r aim
  pub other : path ≢ aim
  pub portion : IsPortion (count_on path (groups_at P r)) count
  pub all : steps ≡ Rebook (record { 0 = r }) path aim count ∷ []

-- leg y is movable, cancelled and not called off; it leads back from where leg x leads, and is scheduled to depart 0 to 1,440 minutes after the scheduled arrival of leg x
pub record LeadsBack (I : Situation) (P : PlanRows) (x y : ℕ) : Type 0 where
  pub within : y < legs_of I
  pub movable : fixed I y ≡ false
  pub cancelled : row_at P y ≡ Cancelled
  pub kept : called_off I y ≡ false
  pub from : (leg_at I y).origin.0 ≡ (leg_at I x).dest.0
  pub to : (leg_at I y).dest.0 ≡ (leg_at I x).origin.0
  pub soonest : (leg_at I x).sched.0 + (leg_at I x).block ≤ (leg_at I y).sched.0
  pub latest : (leg_at I y).sched.0 ≤ (leg_at I x).sched.0 + (leg_at I x).block + 1440

-- leg x is flown again by aircraft p at its earliest departure, alone or with a leg that leads back, once the aircraft has turned round
pub data IsRestoring (I : Situation) (P : PlanRows) (x p : ℕ) (steps : List Step) : Type 0 where
  alone : steps ≡ Set (leg x) Cancelled (flown_row p (earliest I x)) ∷ Push (plane p) (Some (leg x)) ∷ Tidy ∷ Refill (leg x) ∷ [] → IsRestoring I P x p steps
  with_back :
      (y : ℕ) → LeadsBack I P x y
      → steps ≡ Set (leg x) Cancelled (flown_row p (earliest I x)) ∷ Set (leg y) Cancelled (flown_row p (max (earliest I y) (earliest I x + (leg_at I x).block + (plane_at I p).turnaround))) ∷ Push (plane p) None ∷ Tidy ∷ Refill (leg x) ∷ Refill (leg y) ∷ []
      → IsRestoring I P x p steps

-- Plans that steps of some aircraft make of two plans, and the room that hours have for their legs.
--
-- P and Q are the plans before the steps, and S and T those that they make.
use Rattle.std.specs.Prelude.{◌≡◌, ℕ, ◌+◌, ◌<◌, Bool, true, false, ◌&&◌, not, ◌==◌, ◌⊎◌, count_by, Option, Some, None}
use Rattle.desk_data.specs.Situation.{Situation, legs_of, leg_at}
use Rattle.desk_data.specs.Hours.{dep_cap, arr_cap}
use Rattle.desk_data.specs.PlanRows.{PlanRows, row_at}
use Rattle.desk_rules.specs.Numbers.{numbers}
use Rattle.desk_model.specs.Push.{departs_beside, arrives_beside}
use Rattle.near_moves.specs.Same.{AgreeOn}

-- how many other legs than some legs depart from airport a in hour h, as a Push of leg x counts them, or arrive there then
abbrev pub departures_outside : (ℕ → Bool) → Situation → PlanRows → ℕ → ℕ → ℕ → ℕ
departures_outside legs I P x a h = count_by (λ y. not (legs y) && departs_beside I P x a h y) (numbers (legs_of I))

abbrev pub arrivals_outside : (ℕ → Bool) → Situation → PlanRows → ℕ → ℕ → ℕ → ℕ
arrivals_outside legs I P x a h = count_by (λ y. not (legs y) && arrives_beside I P x a h y) (numbers (legs_of I))

-- how many of some legs leave airport a, and how many reach it
abbrev pub count_from : (ℕ → Bool) → Situation → ℕ → ℕ
count_from legs I a = count_by (λ y. legs y && ((leg_at I y).origin.0 == a)) (numbers (legs_of I))

abbrev pub count_to : (ℕ → Bool) → Situation → ℕ → ℕ
count_to legs I a = count_by (λ y. legs y && ((leg_at I y).dest.0 == a)) (numbers (legs_of I))

-- whatever n legs do, an hour has the same room beside other legs in both plans: there are as many others in both, or in both there is room for one leg more than all n
abbrev pub IsSameRoom : ℕ → ℕ → ℕ → Option ℕ → Type 0
IsSameRoom n before now None = Unit {0}
IsSameRoom n before now (Some cap) = (before ≡ now) ⊎ ((n + before < cap) × (n + now < cap))

-- at the airports of some legs each hour has the same room beside them in both plans
pub record HaveSameRoom (legs : ℕ → Bool) (I : Situation) (P Q : PlanRows) : Type 0 where
  pub departures : (x h : ℕ) → legs x ≡ true → IsSameRoom (count_from legs I (leg_at I x).origin.0) (departures_outside legs I P x (leg_at I x).origin.0 h) (departures_outside legs I Q x (leg_at I x).origin.0 h) (dep_cap I (leg_at I x).origin.0 h)
  pub arrivals : (x h : ℕ) → legs x ≡ true → IsSameRoom (count_to legs I (leg_at I x).dest.0) (arrivals_outside legs I P x (leg_at I x).dest.0 h) (arrivals_outside legs I Q x (leg_at I x).dest.0 h) (arr_cap I (leg_at I x).dest.0 h)

-- plans S and T agree where some aircraft and legs are concerned; every other leg has its row of plan P in S, and that of plan Q in T, and nobody is moved
pub record AreMadeAlike (planes legs : ℕ → Bool) (P Q S T : PlanRows) : Type 0 where
  pub agree : AgreeOn planes legs S T
  pub first : (y : ℕ) → legs y ≡ false → row_at S y ≡ row_at P y
  pub second : (y : ℕ) → legs y ≡ false → row_at T y ≡ row_at Q y
  pub groups : S.groups ≡ P.groups
  pub later_groups : T.groups ≡ Q.groups

-- The moves of legs and aircraft in words: which units there are, and at which moments two aircraft exchange legs.
use Rattle.std.specs.Prelude.{◌≡◌, ◌≢◌, ℕ, ◌<◌, ◌≤◌, ◌⊎◌, false, length, All}
use Rattle.desk_data.specs.Situation.{Situation, legs_of, planes_of, plane_at, fixed}
use Rattle.desk_data.specs.PlanRows.{PlanRows}
use Rattle.desk_rules.specs.Words.{Flies, Precedes}
use Rattle.near_moves.specs.MoveParts.{legs_from, run}
use Rattle.near_moves.specs.Units.{MoveUnit, swapped, handed}

-- two aircraft are of one family, the first is no surface transport, and the second has the greater number
pub record ExchangesTwo (I : Situation) (u : MoveUnit) : Type 0 where
  pub first : ℕ
  pub second : ℕ
  pub unit : u ≡ swapped first second
  pub later : first < second
  pub planes : second < planes_of I
  pub air : (plane_at I first).surface ≡ false
  pub family : (plane_at I second).family ≡ (plane_at I first).family

-- one pair of aircraft stands before another: by the first aircraft, and then by the second
pub record AreInOrder (u v : MoveUnit) : Type 0 where
  pub first : ℕ
  pub second : ℕ
  pub later_first : ℕ
  pub later_second : ℕ
  pub pair : u ≡ swapped first second
  pub later_pair : v ≡ swapped later_first later_second
  pub order : (first < later_first) ⊎ ((first ≡ later_first) × (second < later_second))

-- a movable leg of one of two aircraft departs at moment t
pub record DepartsOneAt (I : Situation) (P : PlanRows) (p q t : ℕ) : Type 0 where
  pub leg : ℕ
  pub within : leg < legs_of I
  pub movable : fixed I leg ≡ false
  pub flown : Flies P leg p t ⊎ Flies P leg q t

-- leg y is leg x, which an aircraft flies, or comes after it on that aircraft
pub record IsFrom (I : Situation) (P : PlanRows) (x y : ℕ) : Type 0 where
  pub within : y < legs_of I
  pub plane : ℕ
  pub dep : ℕ
  pub flown : Flies P x plane dep
  pub place : (y ≡ x) ⊎ Precedes P x y

-- there are k legs from leg x on, and they are all movable
pub record IsRun (I : Situation) (P : PlanRows) (x k : ℕ) : Type 0 where
  pub long : k ≤ length (legs_from I P x)
  pub movable : All (λ y. fixed I y ≡ false) (run I P x k)

-- a run of 1 to 4 legs that begins with a movable leg goes from the aircraft that flies it to another of the family
pub record HandsRun (I : Situation) (P : PlanRows) (u : MoveUnit) : Type 0 where
  pub leg : ℕ
  pub legs : ℕ
  pub to : ℕ
  pub unit : u ≡ handed leg legs to
  pub within : leg < legs_of I
  pub movable : fixed I leg ≡ false
  pub plane : ℕ
  pub dep : ℕ
  pub flown : Flies P leg plane dep
  pub some : 1 ≤ legs
  pub most : legs ≤ 4
  pub run : IsRun I P leg legs
  pub other : to ≢ plane
  pub planes : to < planes_of I
  pub family : (plane_at I to).family ≡ (plane_at I plane).family

-- Marks of legs, of airports and of aircraft, by their numbers; and legs that have another row in a later plan. What is told of something is that it is untouched, or marked: what is marked may be untouched all the same.
--
-- P is the earlier plan, and Q the later one.
use Rattle.std.specs.Prelude.{◌≡◌, ℕ, ◌<◌, Bool, true, false, ◌⊎◌, List, length, All, slice_index_or}
use Rattle.std.specs.List.{Contains}
use Rattle.desk_units.specs.declared.numbers.Leg.{Leg}
use Rattle.desk_units.specs.declared.numbers.Cabin.{Cabin}
use Rattle.desk_data.specs.declared.row.Group.{Group}
use Rattle.desk_data.specs.Situation.{Situation, legs_of}
use Rattle.desk_data.specs.PlanRows.{PlanRows, row_at}
use Rattle.desk_rules.specs.Maintenance.{flies}
use Rattle.near_moves.specs.MoveParts.{leg}

-- whether number k is marked
abbrev pub is_marked : List Bool → ℕ → Bool
is_marked marks k = slice_index_or marks k false

-- what was marked still is
abbrev pub AreKept : List Bool → List Bool → Type 0
AreKept old new = (k : ℕ) → is_marked old k ≡ true → is_marked new k ≡ true

-- something holds of each number below n that is not marked
abbrev pub HoldsOf : ℕ → List Bool → (ℕ → Type 0) → Type 0
HoldsOf n marks Holds = (k : ℕ) → k < n → is_marked marks k ≡ false → Holds k

-- the legs of a path are marked, and those of the paths of some groups
abbrev pub AreLegsMarked : List Bool → List (Leg × Cabin) → Type 0
AreLegsMarked marks path = All (λ pair. is_marked marks pair.0.0 ≡ true) path

abbrev pub ArePathsMarked : List Bool → List Group → Type 0
ArePathsMarked marks groups = All (λ group. AreLegsMarked marks group.path) groups

-- no leg of a path is marked, and none of the paths of some groups
abbrev pub AreLegsFree : List Bool → List (Leg × Cabin) → Type 0
AreLegsFree marks path = All (λ pair. is_marked marks pair.0.0 ≡ false) path

abbrev pub ArePathsFree : List Bool → List Group → Type 0
ArePathsFree marks groups = All (λ group. AreLegsFree marks group.path) groups

-- the aircraft that flies leg y in plan R is marked, if one does
abbrev pub IsFlierMarked : PlanRows → List Bool → ℕ → Type 0
IsFlierMarked R planes y = (p : ℕ) → flies R p y ≡ true → is_marked planes p ≡ true

-- ---- legs that have another row

-- those of the first n legs are listed
pub record AreChangedOfFirst (n : ℕ) (P Q : PlanRows) (legs : List Leg) : Type 0 where
  pub listed : (y : ℕ) → y < n → (row_at P y ≡ row_at Q y) ⊎ Contains legs (leg y)
  pub within : All (λ x. x.0 < n) legs

-- all of them are
abbrev pub AreChanged : Situation → PlanRows → PlanRows → List Leg → Type 0
AreChanged I P Q legs = AreChangedOfFirst (legs_of I) P Q legs

-- each leg of the day that is not marked has the same row
pub record AreRowsTold (I : Situation) (P Q : PlanRows) (rows : List Bool) : Type 0 where
  pub all : length rows ≡ legs_of I
  pub same : HoldsOf (legs_of I) rows (λ y. row_at P y ≡ row_at Q y)

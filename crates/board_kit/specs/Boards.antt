-- What can be asked of a board, and what its calls make of it. Below, is I P Ps board says that the board is that of instance I and
-- plan P, and its past the plans Ps, the last first. No caller hands the past in, so what is said of a call is said of every past.
use Rattle.std.specs.Prelude.{◌≡◌, ℕ, ◌<◌, List, [], ◌∷◌, length}
use Rattle.desk_data.specs.Situation.{Situation}
use Rattle.desk_data.specs.PlanRows.{PlanRows}

-- ---- what can be asked

-- a board of a plan whose past has room for one change more; here is knows the instance and the plan already
pub record IsReady {B : Type 0} (is : List PlanRows → B → Type 0) (kept : B) : Type 0 where
  pub plans : List PlanRows
  pub board : is plans kept
  pub few : length plans < 2000000000

-- a board whose past has a change to take back
pub record CanGoBack {B : Type 0} (is : Situation → PlanRows → List PlanRows → B → Type 0) (kept : B) : Type 0 where
  pub inst : Situation
  pub plan : PlanRows
  pub before : PlanRows
  pub plans : List PlanRows
  pub board : is inst plan (before ∷ plans) kept

-- two boards of one plan, with one past
pub record AreBoth (First Second : Type 0) : Type 0 where
  pub first : First
  pub second : Second

-- ---- what calls make of a board

-- a board of plan P is that of plan Q now, and P comes first in its past
abbrev pub IsChanged : {B : Type 0} → (Situation → PlanRows → List PlanRows → B → Type 0) → Situation → PlanRows → PlanRows → B → B → Type 0
IsChanged is I P Q old new = (Ps : List PlanRows) → is I P Ps old → is I Q (P ∷ Ps) new

-- a board of plan P is still that of plan P, and its past is as before
abbrev pub IsUnchanged : {B : Type 0} → (Situation → PlanRows → List PlanRows → B → Type 0) → Situation → PlanRows → B → B → Type 0
IsUnchanged is I P old new = (Ps : List PlanRows) → is I P Ps old → is I P Ps new

-- a board is that of the first plan of its past now, and its past the plans before that
abbrev pub IsTakenBack : {B : Type 0} → (Situation → PlanRows → List PlanRows → B → Type 0) → B → B → Type 0
IsTakenBack is old new = (I : Situation) (P Q : PlanRows) (Qs : List PlanRows) → is I P (Q ∷ Qs) old → is I Q Qs new

-- a board, or a copy of it, is that of its plan, and has no past
abbrev pub HasNoPast : {B : Type 0} → (Situation → PlanRows → List PlanRows → B → Type 0) → B → B → Type 0
HasNoPast is old new = (I : Situation) (P : PlanRows) (Ps : List PlanRows) → is I P Ps old → is I P [] new

-- n is how many plans a board's past has
abbrev pub IsDepth : {B : Type 0} → (Situation → PlanRows → List PlanRows → B → Type 0) → ℕ → B → Type 0
IsDepth is n board = (I : Situation) (P : PlanRows) (Ps : List PlanRows) → is I P Ps board → n ≡ length Ps

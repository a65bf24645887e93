-- What a unit of legs hangs on.
--
-- P is the plan at which no move of a unit was better, and Q the later one.
use Rattle.std.specs.Prelude.{◌≡◌, ℕ, Bool}
use Rattle.desk_data.specs.Situation.{Situation}
use Rattle.desk_data.specs.PlanRows.{PlanRows}
use Rattle.near_moves.specs.Units.{MoveUnit, retimed, swapped, dropped, restored, handed, rebooked}
use Rattle.near_moves.specs.LegMoves.{brings_back}
use Rattle.near_moves.specs.Same.{AgreeOn}
use Rattle.near_moves.specs.Steps.{unit_planes, unit_legs, unit_refills}
use Rattle.near_moves.specs.Room.{HaveSameRoom}
use Rattle.near_untouched.specs.Dearer.{HaveSamePassengers, HaveSamePositions}

-- the same cancelled legs lead back from a leg that is flown again
abbrev pub HasSameBacks : Situation → PlanRows → PlanRows → MoveUnit → Type 0
HasSameBacks I P Q (retimed x) = Unit {0}
HasSameBacks I P Q (swapped p q) = Unit {0}
HasSameBacks I P Q (dropped x) = Unit {0}
HasSameBacks I P Q (restored x p) = (y : ℕ) → brings_back I P x y ≡ brings_back I Q x y
HasSameBacks I P Q (handed x k q) = Unit {0}
HasSameBacks I P Q (rebooked r path) = Unit {0}

-- nothing changed that the moves of a unit of legs hang on: its aircraft fly the same legs with the same rows, and the legs that it may fly again are cancelled as before; hours have the same room for these legs; each reservation that is on them, or is booked on one that may be refilled, has the same groups on legs with the same rows; and positions have the same at hand of its aircraft
pub record IsUntouchedUnit (I : Situation) (P Q : PlanRows) (u : MoveUnit) : Type 0 where
  pub agree : AgreeOn (unit_planes P u) (unit_legs I P u) P Q
  pub backs : HasSameBacks I P Q u
  pub room : HaveSameRoom (unit_legs I P u) I P Q
  pub touched : ℕ → Bool
  pub passengers : HaveSamePassengers (unit_legs I P u) (unit_refills I P u) touched I P Q
  pub positions : HaveSamePositions (unit_planes P u) I P Q

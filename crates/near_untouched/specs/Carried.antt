-- Reservations that have other groups in a later plan, and the aircraft on which their passengers are.
--
-- P is the earlier plan, and Q the later one.
use Rattle.std.specs.Prelude.{◌≡◌, ℕ, ◌<◌, Bool, ◌⊎◌, List, length, All}
use Rattle.desk_units.specs.declared.numbers.Leg.{Leg}
use Rattle.desk_units.specs.declared.numbers.Cabin.{Cabin}
use Rattle.desk_data.specs.declared.row.Group.{Group}
use Rattle.desk_data.specs.Situation.{Situation, planes_of}
use Rattle.desk_data.specs.PlanRows.{PlanRows, groups_at}
use Rattle.near_untouched.specs.Marks.{IsFlierMarked}

-- the aircraft are marked that fly the legs of a path in plan R, and those of the paths of some groups
abbrev pub AreFliersMarked : PlanRows → List Bool → List (Leg × Cabin) → Type 0
AreFliersMarked R marks path = All (λ pair. IsFlierMarked R marks pair.0.0) path

abbrev pub AreCarriersMarked : PlanRows → List Bool → List Group → Type 0
AreCarriersMarked R marks groups = All (λ group. AreFliersMarked R marks group.path) groups

-- reservation r has the same groups in both plans, or the aircraft are marked on which somebody of it is in either
abbrev pub IsCarriedTold : PlanRows → PlanRows → List Bool → ℕ → Type 0
IsCarriedTold P Q marks r = (groups_at P r ≡ groups_at Q r) ⊎ (AreCarriersMarked P marks (groups_at P r) × AreCarriersMarked Q marks (groups_at Q r))

-- so each of the first n reservations
pub record AreCarriedTold (n : ℕ) (I : Situation) (P Q : PlanRows) (marks : List Bool) : Type 0 where
  pub planes : length marks ≡ planes_of I
  pub each : (r : ℕ) → r < n → IsCarriedTold P Q marks r

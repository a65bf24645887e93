-- Paths that are passed over.
use Rattle.std.specs.Prelude.{◌≡◌, ℕ, ◌<◌, ◌≤◌, List, length, find, All}
use Rattle.desk_data.specs.Situation.{Situation, reservations_of}
use Rattle.desk_data.specs.PlanRows.{PlanRows, groups_at}
use Rattle.plan_moves.specs.Fits.{Fits}
use Rattle.near_moves.specs.Units.{MoveUnit}
use Rattle.near_moves.specs.Near.{unit_moves, moves_of}
use Rattle.near_moves.specs.Descent.{is_better}
use Rattle.near_pax.specs.declared.pax.PaxMoves.{PaxMoves}
use Rattle.near_pax.specs.Units.{unit_at}
use Rattle.near_pax.specs.Left.{left, unit_left, units_left}

-- what is left once units were passed over: the first better move is the same, all fit where they did, and fewer units are left
pub record IsPast (I : Situation) (P : PlanRows) (before now : List MoveUnit) : Type 0 where
  pub same : find (is_better I P) (moves_of I P before) ≡ find (is_better I P) (moves_of I P now)
  pub fits : All (Fits I) (moves_of I P before) → All (Fits I) (moves_of I P now)
  pub fewer : length now ≤ length before

-- these moves are left of some units: those off the path of a group of reservation r, and then the units after it, which are fewer
pub record GoesOn (I : Situation) (P : PlanRows) (before : List MoveUnit) (r place : ℕ) (moves : PaxMoves) : Type 0 where
  pub same : find (is_better I P) (moves_of I P before) ≡ find (is_better I P) (left I P moves)
  pub fits : All (Fits I) (moves_of I P before) → All (Fits I) (left I P moves)
  pub fewer : length (units_left I P moves) < length before
  pub within : r < reservations_of I
  pub there : place < length (groups_at P r)
  pub unit : unit_left I P moves ≡ unit_moves I P (unit_at P r place)

-- Moves of which it is known why they are not better.
use Rattle.std.specs.Prelude.{◌≡◌, false, true, List, All}
use Rattle.std.specs.List.{Contains}
use Rattle.desk_data.specs.Situation.{Situation}
use Rattle.desk_data.specs.PlanRows.{PlanRows}
use Rattle.plan_moves.specs.declared.moves.Move.{Move}
use Rattle.near_moves.specs.Descent.{is_better}
use Rattle.near_moves.specs.Near.{unit_moves}
use Rattle.near_moves.specs.Units.{MoveUnit}
use Rattle.near_moves.specs.Steps.{BeginsFlown}
use Rattle.near_moves.specs.Out.{IsOut}
use Rattle.near_notes.specs.Notes.{IsOutByRows}
use Rattle.near_search.specs.declared.verdict.Verdict.{Verdict}

-- a move is out, whichever unit of legs it is of; of a rebooking, which is of none, nothing is said
abbrev pub IsMoveOut : Situation → PlanRows → Move → Type 0
IsMoveOut I P m = (u : MoveUnit) → BeginsFlown P u → Contains (unit_moves I P u) m → IsOut I P u m

-- it is known of a move that it is not better, and why, if it is of a unit of legs
pub record IsRuledOut (I : Situation) (P : PlanRows) (m : Move) : Type 0 where
  pub worse : is_better I P m ≡ false
  pub out : IsMoveOut I P m

-- each of some moves is out
abbrev pub AreMovesOut : Situation → PlanRows → List Move → Type 0
AreMovesOut I P ms = All (IsMoveOut I P) ms

-- ---- by rows alone

-- a move is out by rows alone, whichever unit of legs it is of
abbrev pub IsMoveOutByRows : Situation → PlanRows → Move → Type 0
IsMoveOutByRows I P m = (u : MoveUnit) → BeginsFlown P u → Contains (unit_moves I P u) m → IsOutByRows I P u m

-- it is known of a move that it is not better, and rows alone say so
pub record IsRuledOutByRows (I : Situation) (P : PlanRows) (m : Move) : Type 0 where
  pub worse : is_better I P m ≡ false
  pub out : IsMoveOutByRows I P m

-- each of some moves is out by rows alone
abbrev pub AreMovesOutByRows : Situation → PlanRows → List Move → Type 0
AreMovesOutByRows I P ms = All (IsMoveOutByRows I P) ms

-- ---- what is known of a move

-- a verdict on a move says whether it is better; it may say why it is not, and that rows alone say so
pub record IsVerdict (I : Situation) (P : PlanRows) (m : Move) (verdict : Verdict) : Type 0 where
  pub better : verdict.better ≡ is_better I P m
  pub out : verdict.out ≡ true → IsRuledOut I P m
  pub by_rows : verdict.by_rows ≡ true → IsRuledOutByRows I P m

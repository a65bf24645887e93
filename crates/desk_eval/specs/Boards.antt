-- The four boards of an evaluator, and of which plan they are.
use Rattle.std.specs.Prelude.{List}
use Rattle.desk_data.specs.Situation.{Situation}
use Rattle.desk_data.specs.PlanRows.{PlanRows}
use Rattle.board_kit.specs.declared.both.Both.{Both}
use Rattle.board_kit.specs.Boards.{AreBoth}
use Rattle.desk_eval.specs.declared.passengers.PassengerBoards.{PassengerBoards}
use Rattle.board_rot.specs.Boards.{Board as RotBoard, IsBoardOf as IsRotBoardOf}
use Rattle.board_kit.specs.Board.{Board as SlotBoard, IsBoardOf as IsSlotBoardOf}
use Rattle.board_seats.specs.Board.{Board as SeatBoard, IsBoardOf as IsSeatBoardOf}
use Rattle.board_cost.specs.Board.{Board as CostBoard, IsBoardOf as IsCostBoardOf}

-- all boards as one: of rotations and of hours, and of seats and of the cost
abbrev pub AllBoards : Type 0
AllBoards = Both (Both RotBoard SlotBoard) PassengerBoards

-- each of them by its name
abbrev pub rotations_of : AllBoards → RotBoard
rotations_of all = all.first.first

abbrev pub slots_of : AllBoards → SlotBoard
slots_of all = all.first.second

abbrev pub seats_of : AllBoards → SeatBoard
seats_of all = all.second.seats

abbrev pub cost_board_of : AllBoards → CostBoard
cost_board_of all = all.second.cost

-- the boards are those of the day and of plan P, and their past the plans Ps, the last first
abbrev pub AreBoardsOf : Situation → PlanRows → List PlanRows → AllBoards → Type 0
AreBoardsOf I P Ps all =
    AreBoth (AreBoth (IsRotBoardOf I P Ps (rotations_of all)) (IsSlotBoardOf I P Ps (slots_of all))) (AreBoth (IsSeatBoardOf I P Ps (seats_of all)) (IsCostBoardOf I P Ps (cost_board_of all)))

-- Boards that were changed.
use Rattle.desk_data.specs.Situation.{Situation}
use Rattle.desk_data.specs.PlanRows.{PlanRows}
use Rattle.board_kit.specs.Boards.{IsReady, CanGoBack, IsChanged}
use Rattle.desk_eval.specs.Boards.{AllBoards, AreBoardsOf}

-- boards that were changed can be taken back
pub all_changed : (I : Situation) (P Q : PlanRows) (boards now : AllBoards) → IsReady (AreBoardsOf I P) boards → IsChanged AreBoardsOf I P Q boards now → CanGoBack AreBoardsOf now
all_changed I P Q boards now ready so = record { inst = I; plan = Q; before = P; plans = ready.plans; board = so ready.plans ready.board }

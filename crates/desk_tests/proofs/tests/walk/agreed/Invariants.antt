use Rattle.desk_tests.specs.Walks.{IsWalk}
use Rattle.desk_tests.proofs.tests.walk.agreed.Given as goal

abbrev pub invariant-loop-taken : goal.invariant-loop-taken
invariant-loop-taken g l = IsWalk g.B.Board.is_board_of l.inst l.walk.board l.walk.pages l.walk.past.items

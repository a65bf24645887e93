use Rattle.desk_tests.specs.Walks.{IsWalk}
use Rattle.desk_tests.proofs.tests.walk.take_back.Given as goal

abbrev pub invariant-loop : goal.invariant-loop
invariant-loop g l = IsWalk g.B.Board.is_board_of l.inst l.walk.board l.walk.pages l.walk.past.items

use Rattle.live_board.specs.Words.{board_of}
use Rattle.desk_tests.proofs.tests.views.views_of_day.Given as goal

-- the board that was just opened
abbrev pub ghosts-views_on : goal.ghosts-views_on
ghosts-views_on g a = record { book = board_of a.opened }

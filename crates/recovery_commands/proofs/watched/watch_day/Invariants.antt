use Rattle.live_board.specs.Words.{board_of}
use Rattle.recovery_commands.proofs.watched.watch_day.Given as goal

-- the board that was just opened
abbrev pub ghosts-watch_book : goal.ghosts-watch_book
ghosts-watch_book g a = record { book = board_of a.opened }

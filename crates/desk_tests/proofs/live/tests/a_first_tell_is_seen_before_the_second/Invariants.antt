use Rattle.desk_tests.proofs.live.tests.a_first_tell_is_seen_before_the_second.Given as goal

-- the board that was just opened
abbrev pub ghosts-tell_and_see : goal.ghosts-tell_and_see
ghosts-tell_and_see g a = record { book = a.opened.seen.book }

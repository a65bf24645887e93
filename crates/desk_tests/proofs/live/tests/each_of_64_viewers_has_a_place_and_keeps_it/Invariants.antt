use Rattle.desk_tests.proofs.live.tests.each_of_64_viewers_has_a_place_and_keeps_it.Given as goal

-- the board that was just opened
abbrev pub ghosts-see_from_all_places : goal.ghosts-see_from_all_places
ghosts-see_from_all_places g a = record { book = a.opened.seen.book }

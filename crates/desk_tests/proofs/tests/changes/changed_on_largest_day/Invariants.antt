use Rattle.desk_tests.proofs.tests.changes.changed_on_largest_day.Given as goal

abbrev pub ghosts-change_and_back : goal.ghosts-change_and_back
ghosts-change_and_back a = record { name = a.blank.name; parts = a.blank.parts }

use Rattle.desk_tests.proofs.tests.walk.walked.Given as goal

abbrev pub ghosts-agreed : goal.ghosts-agreed
ghosts-agreed g a = record { name = a.blank.name; parts = a.blank.parts }

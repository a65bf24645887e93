use Rattle.desk_tests.proofs.tests.evaluator.walked_apart.Given as goal

abbrev pub ghosts-kept_apart : goal.ghosts-kept_apart
ghosts-kept_apart a = record { name = a.blank.name; parts = a.blank.parts }

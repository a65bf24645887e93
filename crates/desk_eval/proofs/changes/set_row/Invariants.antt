use Rattle.desk_eval.proofs.changes.set_row.Given as goal

abbrev pub ghosts-set_counted_row : goal.ghosts-set_counted_row
ghosts-set_counted_row a = record { name = a.blank.name; parts = a.blank.parts }

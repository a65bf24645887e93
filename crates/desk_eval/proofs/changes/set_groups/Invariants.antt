use Rattle.desk_eval.proofs.changes.set_groups.Given as goal

abbrev pub ghosts-set_counted_groups : goal.ghosts-set_counted_groups
ghosts-set_counted_groups a = record { name = a.blank.name; parts = a.blank.parts }

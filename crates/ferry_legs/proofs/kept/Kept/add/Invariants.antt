use Rattle.ferry_legs.proofs.kept.Kept.add.Given as goal

abbrev pub ghost-add : goal.ghost-add
ghost-add g a = g.added

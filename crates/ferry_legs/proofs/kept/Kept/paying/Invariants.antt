use Rattle.ferry_legs.proofs.kept.Kept.paying.Given as goal

abbrev pub ghost-has_way : goal.ghost-has_way
ghost-has_way g a = g.added

abbrev pub ghost-lowers : goal.ghost-lowers
ghost-lowers g a = g.added

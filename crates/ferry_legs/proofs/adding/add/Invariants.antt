use Rattle.ferry_legs.proofs.adding.add.Given as goal

abbrev pub ghost-add : goal.ghost-add
ghost-add a = a.self.now.times.added

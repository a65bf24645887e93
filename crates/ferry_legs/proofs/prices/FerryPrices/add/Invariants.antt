use Rattle.ferry_legs.proofs.prices.FerryPrices.add.Given as goal

abbrev pub ghost-change : goal.ghost-change
ghost-change g a = g.added

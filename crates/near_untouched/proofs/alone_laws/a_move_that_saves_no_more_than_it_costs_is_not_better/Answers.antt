use Rattle.near_untouched.proofs.AloneLaws.{saves-worse}
use Rattle.near_untouched.proofs.alone_laws.a_move_that_saves_no_more_than_it_costs_is_not_better.Goals as goal

pub returns : goal.returns
returns c = saves-worse

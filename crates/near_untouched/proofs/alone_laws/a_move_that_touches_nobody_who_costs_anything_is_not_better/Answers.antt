use Rattle.near_untouched.proofs.AloneLaws.{nothing-saved}
use Rattle.near_untouched.proofs.alone_laws.a_move_that_touches_nobody_who_costs_anything_is_not_better.Goals as goal

pub returns : goal.returns
returns c = nothing-saved

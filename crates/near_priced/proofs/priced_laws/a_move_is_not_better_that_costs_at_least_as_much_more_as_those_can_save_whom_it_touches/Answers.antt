use Rattle.near_priced.proofs.SavedLaws.{saved-worse}
use Rattle.near_priced.proofs.priced_laws.a_move_is_not_better_that_costs_at_least_as_much_more_as_those_can_save_whom_it_touches.Goals as goal

pub returns : goal.returns
returns c = saved-worse

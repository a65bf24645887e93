use Rattle.near_memory.proofs.Rebooked.{untouched-worse}
use Rattle.near_memory.proofs.laws.a_rebooking_of_what_is_untouched_is_not_better.Goals as goal

pub returns : goal.returns
returns c = untouched-worse

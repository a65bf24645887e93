use Rattle.near_search.proofs.PaidLaws.{rebook-dearer}
use Rattle.near_search.proofs.FirstLaws.{rebook-ruled_out, unit-ruled_out}
use Rattle.near_search.proofs.laws.a_rebooking_to_a_path_that_costs_no_less_is_not_better.Goals as goal

pub returns : goal.returns
returns c = record { cost = rebook-dearer; better = rebook-ruled_out; unit = unit-ruled_out }

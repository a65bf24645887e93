use Rattle.desk_top.proofs.Owned.{opened_first, opened_always, fault_ends, opened_whole, opened_grown}
use Rattle.desk_top.proofs.laws.what_a_run_leaves_the_next_one_opens.Goals as goal

pub returns : goal.returns
returns c = record { begins = opened_first; moments = opened_always; ends = fault_ends; whole = opened_whole; grows = opened_grown }

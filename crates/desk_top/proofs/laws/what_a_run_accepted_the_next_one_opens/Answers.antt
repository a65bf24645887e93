use Rattle.desk_top.proofs.Owned.{accepted_moments, accepted_whole}
use Rattle.desk_top.proofs.laws.what_a_run_accepted_the_next_one_opens.Goals as goal

pub returns : goal.returns
returns c = record { moments = accepted_moments; whole = accepted_whole }

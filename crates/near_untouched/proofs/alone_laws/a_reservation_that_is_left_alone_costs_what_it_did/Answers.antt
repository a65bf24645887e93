use Rattle.near_untouched.proofs.AloneLaws.{left-alone}
use Rattle.near_untouched.proofs.alone_laws.a_reservation_that_is_left_alone_costs_what_it_did.Goals as goal

pub returns : goal.returns
returns c = left-alone

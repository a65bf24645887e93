use Rattle.near_untouched.proofs.LegLaws.{legs-together}
use Rattle.near_untouched.proofs.leg_laws.legs_that_are_untouched_are_so_together.Goals as goal

pub returns : goal.returns
returns c = legs-together

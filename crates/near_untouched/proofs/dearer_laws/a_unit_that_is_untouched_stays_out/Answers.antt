use Rattle.near_untouched.proofs.OutLaws.{unit-out}
use Rattle.near_untouched.proofs.dearer_laws.a_unit_that_is_untouched_stays_out.Goals as goal

pub returns : goal.returns
returns c = unit-out

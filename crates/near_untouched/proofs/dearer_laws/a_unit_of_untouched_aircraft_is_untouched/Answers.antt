use Rattle.near_untouched.proofs.UntouchedLaws.{planes-untouched}
use Rattle.near_untouched.proofs.dearer_laws.a_unit_of_untouched_aircraft_is_untouched.Goals as goal

pub returns : goal.returns
returns c = planes-untouched

use Rattle.std.proofs.Common.{refl}
use Rattle.plan_checks.proofs.PassengerItemLaws.{least-by_rule}
use Rattle.plan_checks.proofs.least_of_passengers.least_pax.Goals as goal

pub returns-in-Some : goal.returns-in-Some
returns-in-Some c = rw (least-by_rule, ← c.in_ok-item.ensures, c.in-Some.is) refl

pub returns-in-None : goal.returns-in-None
returns-in-None c = rw (least-by_rule, ← c.in_ok-item.ensures, c.in-None.is) c.first_c13_to_c15.ensures

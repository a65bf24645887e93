use Rattle.desk_rules.specs.Rotations.{dep}
use Rattle.desk_rules.proofs.MaintenanceLaws.{departs_before-holds, departs_before-from}
use Rattle.desk_rules.proofs.SlotLaws.{departs_in-holds, departs_in-from, arrives_in-holds, arrives_in-from}
use Rattle.desk_rules.proofs.laws.the_rules_count_legs_as_in_words.Goals as goal

pub returns : goal.returns
returns c = record {
  before = λ P p at x. (
    (λ is. let there = departs_before-holds P p at x is in record { dep = dep P x; flown = there.0; before = there.1 }),
    (λ leg. departs_before-from P p at x leg.dep leg.flown leg.before),
  );
  departs = λ I P a h x. (departs_in-holds I P a h x, departs_in-from I P a h x);
  arrives = λ I P a h x. (arrives_in-holds I P a h x, arrives_in-from I P a h x);
}

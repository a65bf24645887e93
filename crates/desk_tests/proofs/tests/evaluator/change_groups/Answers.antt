use Rattle.std.proofs.Common.{subst}
use Rattle.desk_data.specs.Situation.{Situation}
use Rattle.plan_reads.specs.Made.{AreWhole}
use Rattle.desk_tests.proofs.tests.evaluator.change_groups.Goals as goal

pub put_groups-requires-clause-whole : goal.put_groups-requires-clause-whole
put_groups-requires-clause-whole _ c = λ groups is. subst (λ (I : Situation). AreWhole I c.below.result groups.items) c.instance-inst.ensures (c.in_ok-made.ensures groups is)

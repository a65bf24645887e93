use Rattle.std.proofs.Common.{subst}
use Rattle.desk_data.specs.Situation.{Situation}
use Rattle.plan_reads.specs.Made.{AreWhole}
use Rattle.desk_eval.proofs.BackLaws.{after-itself}
use Rattle.desk_eval.proofs.tidy_step.tidy_reservation.Goals as goal

pub returns-in_err-made-clause-after : goal.returns-in_err-made-clause-after
returns-in_err-made-clause-after c = after-itself 1 c.args.eval.now

pub set_groups-requires-clause-whole : goal.set_groups-requires-clause-whole
set_groups-requires-clause-whole c = λ groups is. subst (λ (I : Situation). AreWhole I c.args.res.0 groups.items) c.instance.ensures (c.in_ok-made.ensures.whole groups is)

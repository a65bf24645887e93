use Rattle.std.proofs.Common.{subst}
use Rattle.desk_data.specs.Situation.{Situation}
use Rattle.plan_reads.specs.Made.{AreWhole}
use Rattle.desk_eval.proofs.BackLaws.{after-itself}
use Rattle.desk_eval.proofs.rebook_step.rebook_step.Goals as goal

pub returns-in_err-made-clause-after : goal.returns-in_err-made-clause-after
returns-in_err-made-clause-after c = after-itself 100000 c.args.eval.now

pub set_groups-requires-clause-whole : goal.set_groups-requires-clause-whole
set_groups-requires-clause-whole c = λ groups is. subst (λ (I : Situation). AreWhole I c.args.res.0 groups.items) c.instance-inst.ensures (c.in_ok-made.ensures.whole groups is)

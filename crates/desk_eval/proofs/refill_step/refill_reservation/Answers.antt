use Rattle.desk_eval.proofs.BackLaws.{after-itself}
use Rattle.desk_eval.proofs.refill_step.refill_reservation.Goals as goal

pub returns-in_err-made-clause-after : goal.returns-in_err-made-clause-after
returns-in_err-made-clause-after c = after-itself 1 c.args.eval.now

use Rattle.desk_model.proofs.FallbackLaws.{stopped-holds, stopped-other, stopped-groups}
use Rattle.desk_model.proofs.fallbacks.a_shift_cancels_legs_from_the_first_called_off_on.Goals as goal

pub returns : goal.returns
returns c = record { stopped = stopped-holds; others = stopped-other; groups = stopped-groups }

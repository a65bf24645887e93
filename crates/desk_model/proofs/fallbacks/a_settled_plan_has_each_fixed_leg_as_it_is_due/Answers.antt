use Rattle.desk_model.proofs.FallbackLaws.{settled-due, settled-movable, settled-groups}
use Rattle.desk_model.proofs.fallbacks.a_settled_plan_has_each_fixed_leg_as_it_is_due.Goals as goal

pub returns : goal.returns
returns c = record { due = settled-due; movable = settled-movable; groups = settled-groups }

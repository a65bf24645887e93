use Rattle.desk_model.proofs.FallbackLaws.{grounded-rows, grounded-due, grounded-movable, grounded-tidied, grounded-carried}
use Rattle.desk_model.proofs.fallbacks.a_ground_plan_flies_no_movable_leg.Goals as goal

pub returns : goal.returns
returns c = record { rows = grounded-rows; due = grounded-due; movable = grounded-movable; tidied = grounded-tidied; carried = grounded-carried }

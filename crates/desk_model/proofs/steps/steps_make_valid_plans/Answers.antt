use Rattle.desk_model.proofs.ValidLaws.{after_set-valid}
use Rattle.desk_model.proofs.PushLaws.{after_push-valid}
use Rattle.desk_model.proofs.SwapLaws.{after_swap-valid}
use Rattle.desk_model.proofs.GroupPlans.{after_rebook-valid}
use Rattle.desk_model.proofs.TidyLaws.{after_tidy-valid}
use Rattle.desk_model.proofs.RefillLaws.{after_refill-valid}
use Rattle.desk_model.proofs.MoveLaws.{after_move-valid}
use Rattle.desk_model.proofs.steps.steps_make_valid_plans.Goals as goal

pub returns : goal.returns
returns c = record {
  set = after_set-valid;
  push = after_push-valid;
  swap = after_swap-valid;
  rebook = after_rebook-valid;
  tidy = after_tidy-valid;
  refill = λ I P x valid plan. after_refill-valid I P x valid plan;
  moves = after_move-valid;
}

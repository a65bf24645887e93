-- What becomes of a batch.
use Rattle.std.specs.Prelude.{◌≡◌, []}
use Rattle.day_orders.specs.declared.orders.Batch.{Batch}
use Rattle.desk_model.specs.declared.answer.Answer.{Answer}
use Rattle.desk_model.specs.declared.answer.Event.TheVariants as event
use Rattle.desk_data.specs.Progress.{with_batch}
use Rattle.desk_model.specs.States.{answer, after}
use Rattle.desk_eval.specs.Evaluated.{Evaluated}
use Rattle.desk_core.specs.Judged.{state_in}

-- the batch is answered with this at the state of the evaluator before it, and the evaluator after it holds the state after the batch
pub record IsTaken (before : Evaluated) (B : Batch) (now : Evaluated) (given : Answer) : Type 0 where
  pub answered : answer (state_in before) (event.Batch B) ≡ given
  pub inst : now.inst ≡ with_batch before.inst before.rows B
  pub reached : after (state_in before) (event.Batch B) ≡ state_in now
  pub settled : now.past ≡ []

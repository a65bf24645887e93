use Rattle.std.proofs.Common.{◌≡◌, ◌*◌, take}
use Rattle.desk_model.specs.Steps.{after_steps}
use Rattle.desk_eval.specs.Back.{IsAfter}
use Rattle.desk_eval.proofs.applied.take_steps.Given as goal

abbrev pub invariant-loop-step : goal.invariant-loop-step
invariant-loop-step l = record {
  rows : l.eval.rows ≡ after_steps l.fn.eval.inst l.fn.eval.rows (take l.step-index l.steps);
  after : IsAfter (100000 * l.step-index) l.fn.eval l.eval;
}

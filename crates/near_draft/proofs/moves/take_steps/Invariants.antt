use Rattle.std.proofs.Common.{◌≡◌, take}
use Rattle.desk_model.specs.Steps.{after_steps}
use Rattle.near_draft.specs.Drafts.{plan_of}
use Rattle.near_draft.proofs.moves.take_steps.Given as goal

abbrev pub invariant-loop-step : goal.invariant-loop-step
invariant-loop-step l = record {
  plan : plan_of l.draft ≡ after_steps l.fn.draft.inst (plan_of l.fn.draft) (take l.step-index l.steps);
  inst : l.draft.inst ≡ l.fn.draft.inst;
  rows : l.draft.rows ≡ l.fn.draft.rows;
}

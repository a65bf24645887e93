use Rattle.std.proofs.Common.{◌≡◌, take}
use Rattle.step_laws.proofs.SwapLaws.{swapped_all}
use Rattle.near_draft.specs.Drafts.{plan_of}
use Rattle.near_draft.proofs.swap.swap_step.Given as goal

-- the legs so far went over
abbrev pub invariant-loop-leg : goal.invariant-loop-leg
invariant-loop-leg l = record {
  plan : plan_of l.draft ≡ swapped_all (plan_of l.fn.draft) l.exchange.first.0 l.exchange.second.0 l.exchange.at.0 (take l.leg-index l.leg-items);
  inst : l.draft.inst ≡ l.fn.draft.inst;
  rows : l.draft.rows ≡ l.fn.draft.rows;
}

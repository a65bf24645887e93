use Rattle.std.proofs.Common.{◌+◌, ◌≤◌, take}
use Rattle.std.specs.Prelude.{sum_by}
use Rattle.near_draft.specs.Drafts.{plan_of}
use Rattle.near_priced.specs.Saved.{saved_on}
use Rattle.near_priced.proofs.saved.left_by_savings.Given as goal

-- what is left of the limit beside the legs so far
abbrev pub invariant-loop-leg : goal.invariant-loop-leg
invariant-loop-leg l = sum_by (λ leg. saved_on l.inst l.plan (plan_of l.draft) leg.0) (take l.leg-index l.legs) + l.left ≤ l.limit

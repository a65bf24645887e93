use Rattle.std.proofs.Common.{◌≡◌, take}
use Rattle.hour_counts.proofs.PlacedLaws.{placed_all}
use Rattle.near_draft.specs.Drafts.{plan_of}
use Rattle.near_draft.proofs.steps.push_step.Given as goal

abbrev pub invariant-loop-placing : goal.invariant-loop-placing
invariant-loop-placing l = record {
  plan : plan_of l.draft ≡ placed_all l.fn.draft.inst (plan_of l.fn.draft) l.plane.0 (take l.placing-index l.placing-items);
  inst : l.draft.inst ≡ l.fn.draft.inst;
  rows : l.draft.rows ≡ l.fn.draft.rows;
}

use Rattle.std.proofs.Common.{◌≡◌, ◌*◌, ◌≤◌, take}
use Rattle.std.specs.Prelude.{sum_by}
use Rattle.near_draft.specs.Drafts.{plan_of}
use Rattle.near_priced.proofs.FlyingLaws.{gap}
use Rattle.near_priced.proofs.balance.all_lacks.Given as goal

-- what the positions so far lack
abbrev pub invariant-loop-g : goal.invariant-loop-g
invariant-loop-g l = record {
  was : l.lacks.was ≡ sum_by (gap l.inst l.plan) (take l.g l.inst.parts.positions);
  is : l.lacks.is ≡ sum_by (gap l.inst (plan_of l.draft)) (take l.g l.inst.parts.positions);
  few_were : l.lacks.was ≤ l.g * 1000;
  few : l.lacks.is ≤ l.g * 1000;
}

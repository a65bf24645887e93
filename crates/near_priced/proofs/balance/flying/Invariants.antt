use Rattle.std.proofs.Common.{◌≡◌, ◌*◌, ◌^◌, ◌≤◌, take}
use Rattle.std.specs.Prelude.{sum_by}
use Rattle.near_priced.proofs.FlyingLaws.{gets, had}
use Rattle.near_priced.proofs.balance.flying.Given as goal

-- what the changes so far come to
abbrev pub invariant-loop-change : goal.invariant-loop-change
invariant-loop-change l = record {
  new : l.balance.new ≡ sum_by (gets l.inst) (take l.change-index l.draft.changes);
  old : l.balance.old ≡ sum_by (had l.inst) (take l.change-index l.draft.changes);
  few_new : l.balance.new ≤ l.change-index * 10 ^ 26;
  few_old : l.balance.old ≤ l.change-index * 10 ^ 26;
}

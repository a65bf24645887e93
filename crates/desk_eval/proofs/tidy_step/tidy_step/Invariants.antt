use Rattle.std.proofs.Common.{◌≡◌, take}
use Rattle.desk_eval.specs.Back.{IsAfter}
use Rattle.desk_eval.proofs.WalkLaws.{tidied_all}
use Rattle.desk_eval.proofs.tidy_step.tidy_step.Given as goal

abbrev pub invariant-loop-res : goal.invariant-loop-res
invariant-loop-res l = record {
  rows : l.eval.rows ≡ tidied_all l.fn.eval.inst l.fn.eval.rows (take l.res-index l.res-items);
  after : IsAfter l.res-index l.fn.eval l.eval;
}

use Rattle.std.proofs.Common.{◌≡◌, take}
use Rattle.desk_eval.specs.Back.{IsAfter}
use Rattle.hour_counts.proofs.PlacedLaws.{placed_all}
use Rattle.desk_eval.proofs.push_step.push_step.Given as goal

abbrev pub invariant-loop-placing : goal.invariant-loop-placing
invariant-loop-placing l = record {
  rows : l.eval.rows ≡ placed_all l.fn.eval.inst l.fn.eval.rows l.plane.0 (take l.placing-index l.placing-items);
  after : IsAfter l.placing-index l.fn.eval l.eval;
}

use Rattle.std.proofs.Common.{◌≡◌, take}
use Rattle.desk_eval.specs.Back.{IsAfter}
use Rattle.step_laws.proofs.SwapLaws.{swapped_all}
use Rattle.desk_eval.proofs.swap_step.swap_step.Given as goal

abbrev pub invariant-loop-leg : goal.invariant-loop-leg
invariant-loop-leg l = record {
  rows : l.eval.rows ≡ swapped_all l.fn.eval.rows l.exchange.first.0 l.exchange.second.0 l.exchange.at.0 (take l.leg-index l.leg-items);
  after : IsAfter l.leg-index l.fn.eval l.eval;
}

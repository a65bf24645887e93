use Rattle.std.proofs.Common.{◌≡◌, ◌+◌, length}
use Rattle.desk_eval.specs.Back.{back_to}
use Rattle.desk_eval.proofs.back.go_back.Given as goal

-- so many changes are left, and whoever goes on comes to the same evaluator
abbrev pub invariant-loop : goal.invariant-loop
invariant-loop l = record {
  left : length l.eval.past + l.counter ≡ length l.fn.eval.past + l.depth;
  same : back_to l.depth l.eval ≡ back_to l.depth l.fn.eval;
}

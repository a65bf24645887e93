use Rattle.std.proofs.Common.{◌≡◌, length}
use Rattle.near_untouched.specs.Marks.{HoldsOf}
use Rattle.near_untouched.specs.Again.{IsAgain}
use Rattle.near_untouched.proofs.again.touched_again.Given as goal

-- of the legs so far it is told
abbrev pub invariant-loop-x : goal.invariant-loop-x
invariant-loop-x l = record {
  all : length l.touched.items ≡ l.x;
  again : HoldsOf l.x l.touched.items (IsAgain l.plans.inst.now l.plans.earlier.now l.plans.later.now);
}

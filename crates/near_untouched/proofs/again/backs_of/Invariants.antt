use Rattle.std.proofs.Common.{◌≤◌, take}
use Rattle.near_untouched.specs.Again.{AreFree}
use Rattle.near_untouched.proofs.again.backs_of.Given as goal

-- of the legs so far
abbrev pub invariant-loop-back : goal.invariant-loop-back
invariant-loop-back l = record {
  free : AreFree l.inst l.marks l.leg.0 (take l.back-index l.legs) l.count;
  few : l.count ≤ l.back-index;
}

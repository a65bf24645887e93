use Rattle.near_untouched.specs.Counts.{AreCounted}
use Rattle.near_untouched.specs.Marks.{AreKept}
use Rattle.near_untouched.proofs.counts.touch_many.Given as goal

-- the legs so far are counted
abbrev pub invariant-loop-x : goal.invariant-loop-x
invariant-loop-x l = record {
  kept : AreKept l.fn.touched.items l.touched.items;
  counted : AreCounted l.x l.movement l.inst l.plan l.counts.items l.touched.items;
}

use Rattle.std.proofs.Common.{inr}
use Rattle.near_untouched.proofs.planes.touch_flier.Goals as goal

pub returns : goal.returns
returns c = record {
  planes = c.mark_flier.ensures.planes;
  kept = c.mark_flier.ensures.kept;
  told = inr c.mark_flier.ensures.marked;
}

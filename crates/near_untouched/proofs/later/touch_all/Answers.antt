use Rattle.std.proofs.Common.{refl, ◌∙◌}
use Rattle.near_untouched.proofs.later.touch_all.Goals as goal

pub returns-clause-moved : goal.returns-clause-moved
returns-clause-moved c = record {
  planes = c.touch.ensures.touched ∙ c.planes.ensures.count;
  flown = c.touch-2.ensures.touched ∙ c.planes-2.ensures.count;
  again = c.touch-3.ensures.touched ∙ c.legs.ensures.count;
  found = refl;
}

pub returns-clause-touched : goal.returns-clause-touched
returns-clause-touched c = record {
  planes = rw (c.planes.ensures.count, c.as_slice-planes.ensures.value) at c.touch.ensures.each;
  flown = rw (c.planes-2.ensures.count, c.as_slice-planes.ensures.value) at c.touch-2.ensures.each;
  again = rw (c.legs.ensures.count, c.as_slice-again.ensures.value) at c.touch-3.ensures.each;
}

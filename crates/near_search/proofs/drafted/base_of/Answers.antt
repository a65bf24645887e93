use Rattle.near_search.proofs.drafted.base_of.Goals as goal

pub of-requires : goal.of-requires
of-requires c = rw (c.instance.ensures, c.plan.ensures.rows, c.legs.ensures) (record {
  valid = rw c.plan.ensures.rows at c.plan.ensures.valid;
  board = c.slots.ensures;
  planes = c.requires.planes;
  each = c.requires.each;
  within = c.requires.within;
})

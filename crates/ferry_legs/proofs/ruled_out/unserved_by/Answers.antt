use Rattle.std.proofs.Common.{arith}
use Rattle.ferry_legs.proofs.ruled_out.unserved_by.Goals as goal

pub overflow_add-at : goal.overflow_add-at
overflow_add-at c = omega (arith, c.requires.at, c.requires.way.short, c.parts-rows.ensures.valid.parts.to)

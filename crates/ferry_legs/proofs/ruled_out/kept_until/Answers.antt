use Rattle.std.proofs.Common.{arith}
use Rattle.ferry_legs.proofs.ruled_out.kept_until.Goals as goal

pub full_until-requires-clause-at : goal.full_until-requires-clause-at
full_until-requires-clause-at c = omega (arith, c.requires.at, c.parts-rows.ensures.valid.parts.to)

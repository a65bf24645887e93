use Rattle.std.proofs.Common.{arith}
use Rattle.ferry_legs.proofs.ruled_out.ruled_out_until.Goals as goal

pub out_of_service_until-requires-clause-at : goal.out_of_service_until-requires-clause-at
out_of_service_until-requires-clause-at c = omega (arith, c.requires.at, c.parts-rows.ensures.valid.parts.to)

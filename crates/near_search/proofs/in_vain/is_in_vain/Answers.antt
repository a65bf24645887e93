use Rattle.std.proofs.Common.{ap}
use Rattle.near_legs.specs.Choices.{unit_of}
use Rattle.near_search.proofs.in_vain.is_in_vain.Goals as goal

pub returns-in-Handed : goal.returns-in-Handed
returns-in-Handed c = λ known. record {
  leg = c.in-Handed.leg.0;
  count = c.in-Handed.count;
  plane = c.in-Handed.plane.0;
  is = ap unit_of c.in-Handed.is;
  vain = c.is_handed_in_vain.ensures known;
}

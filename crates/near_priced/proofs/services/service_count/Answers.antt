use Rattle.std.proofs.Common.{arith}
use Rattle.near_priced.proofs.PayerLaws.{wanted-le}
use Rattle.near_priced.proofs.services.service_count.Goals as goal

pub returns-clause-serve : goal.returns-clause-serve
returns-clause-serve c =
    let more = wanted-le c.args.inst.now c.args._plan.now c.args.plane.0 c.args.last c.requires.last in
    let counted = rw c.end_of.ensures at c.wanted_elsewhere.ensures.wanted in
    omega (arith, more, counted)

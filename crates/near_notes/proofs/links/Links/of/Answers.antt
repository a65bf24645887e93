use Rattle.std.proofs.Common.{ap, arith}
use Rattle.near_notes.proofs.LinkLaws.{told-more}
use Rattle.near_notes.proofs.links.Links.of.Goals as goal

pub loop-x-preserved : goal.loop-x-preserved
loop-x-preserved c =
    let row = c.leg-leg.ensures.row in
    let there = c.leg-leg.ensures.ranges.origin in
    let other = c.leg-leg.ensures.ranges.dest in
    let few = c.airports.ensures.limit in
    let count = c.airports.ensures.count in
    rw c.link_number.ensures
    (told-more c.args.inst.now c.loop-x.x c.loop-x.known.items c.leg-leg.result.now.origin.0 c.leg-leg.result.now.dest.0 c.loop-x.invariant
    (ap (λ l. l.origin.0) row) (ap (λ l. l.dest.0) row) there (omega (arith, other, few, count)))

use Rattle.std.proofs.Common.{subst, sym}
use Rattle.near_moves.specs.Near.{moves_of}
use Rattle.near_legs.specs.Walk.{IsOf, units_left}
use Rattle.near_legs.proofs.WalkLaws.{given-fit}
use Rattle.near_legs.proofs.moves.LegMoves.next.Goals as goal

pub returns-clause-walk : goal.returns-clause-walk
returns-clause-walk c =
    let I = c.args.inst.now in
    let P = c.args.plan.now in
    let walk = subst (IsOf I P) (sym c.self.view_is) c.units.invariant.walk in
    record {
      units = walk.units;
      fits = (given-fit I c.self.inside.made.items c.pop.new.self.items c.pop.result (moves_of I P (units_left I P c.self.inside.units)) c.pop.ensures.items walk.fits).0;
    }

pub returns-clause-fits : goal.returns-clause-fits
returns-clause-fits c =
    let I = c.args.inst.now in
    let P = c.args.plan.now in
    let walk = subst (IsOf I P) (sym c.self.view_is) c.units.invariant.walk in
    (given-fit I c.self.inside.made.items c.pop.new.self.items c.pop.result (moves_of I P (units_left I P c.self.inside.units)) c.pop.ensures.items walk.fits).1

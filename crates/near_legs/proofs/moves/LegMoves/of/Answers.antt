use Rattle.std.proofs.Common.{◌++◌, List, reverse, subst, sym}
use Rattle.std.specs.List.{All}
use Rattle.plan_moves.specs.declared.moves.Move.{Move}
use Rattle.plan_moves.specs.Fits.{Fits}
use Rattle.near_moves.specs.Near.{moves_of}
use Rattle.near_legs.specs.Walk.{units_left}
use Rattle.near_legs.proofs.WalkLaws.{start-fits}
use Rattle.near_legs.proofs.moves.LegMoves.of.Goals as goal

pub returns-clause-walk : goal.returns-clause-walk
returns-clause-walk c =
    let I = c.args.inst.now in
    let P = c.args.plan.now in
    record {
      units = c.in_ok-units.ensures.walk;
      fits = subst (λ (ms : List Move). All (Fits I) (reverse ms ++ moves_of I P (units_left I P c.in_ok-units.units))) (sym c.new.ensures.items)
          (start-fits I P c.args.shard c.args.shards (units_left I P c.in_ok-units.units) c.requires.plan c.in_ok-units.ensures.left);
    }

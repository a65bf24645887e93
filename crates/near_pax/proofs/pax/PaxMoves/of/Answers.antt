use Rattle.std.proofs.Common.{refl, ap}
use Rattle.near_moves.specs.Near.{moves_of}
use Rattle.near_pax.specs.declared.units.PaxUnits.{PaxUnits}
use Rattle.near_pax.specs.Left.{unit_left, units_left}
use Rattle.near_pax.proofs.UnitLaws.{all-units}
use Rattle.near_pax.proofs.pax.PaxMoves.of.Goals as goal

pub returns-clause-left : goal.returns-clause-left
unfolding unit_left units_left
returns-clause-left c =
    let u : PaxUnits = record { shard = c.args.shard; shards = c.args.shards; res = 0; place = 0 } in
    ap (moves_of c.args.inst.now c.args.plan.now) (all-units c.args.inst.now c.args.plan.now u c.requires.plan refl refl)

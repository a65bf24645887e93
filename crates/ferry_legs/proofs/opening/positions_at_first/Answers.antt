use Rattle.std.proofs.Common.{◌≡◌, map, arith}
use Rattle.desk_data.specs.Situation.{planes_of}
use Rattle.ferry_legs.proofs.StepLaws.{all_planes}
use Rattle.ferry_legs.proofs.opening.positions_at_first.Goals as goal

pub returns : goal.returns
returns c =
    let all : c.loop-p.p ≡ planes_of c.args.inst.now = omega arith in
    all_planes c.args.inst.now c.args.plan.now c.loop-p.p (map (λ rows. rows.items) c.loop-p.airports.items) c.requires all c.loop-p.invariant

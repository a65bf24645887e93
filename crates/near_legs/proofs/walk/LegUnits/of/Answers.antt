use Rattle.std.proofs.Common.{◌++◌, List, map, reverse, ap, ◌∙◌}
use Rattle.near_legs.specs.declared.unit.LegUnit.{LegUnit}
use Rattle.near_legs.specs.declared.neighbourhood.Neighbourhood.TheVariants.{Retimed}
use Rattle.near_legs.specs.Choices.{unit_of}
use Rattle.near_legs.specs.Walk.{rest_of, after_neighbourhood}
use Rattle.near_legs.proofs.WalkLaws.{start-left}
use Rattle.near_legs.proofs.walk.LegUnits.of.Goals as goal

pub returns-clause-left : goal.returns-clause-left
returns-clause-left c =
    let I = c.args.inst.now in
    let P = c.args.plan.now in
    ap (λ (us : List LegUnit). map unit_of (reverse us) ++ (rest_of I P c.args.shard c.args.shards Retimed 0 ++ after_neighbourhood I P c.args.shard c.args.shards Retimed)) c.new.ensures.items
    ∙ start-left I P c.args.shard c.args.shards

use Rattle.std.proofs.Common.{ap, ◌∙◌, arith}
use Rattle.desk_data.specs.Situation.{planes_of}
use Rattle.desk_model.specs.Push.{rotation}
use Rattle.near_search.specs.Rotations.{numbers_of}
use Rattle.near_search.proofs.RotationLaws.{list-at}
use Rattle.near_search.proofs.rotations.Rotations.of_plane.Goals as goal

pub returns-clause-order : goal.returns-clause-order
returns-clause-order c = λ I P are.
    let planes = are.planes in
    let within = c.requires in
    let vec = c.index.result.now in
    ap numbers_of c.as_slice.ensures.value
    ∙ ap (λ legs. numbers_of legs.items) c.index.ensures
    ∙ list-at (λ legs. numbers_of legs.items) (rotation I P) c.args.self.now.legs.items (planes_of I) c.args.plane.0 vec are.each (omega (arith, planes, within))

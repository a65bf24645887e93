use Rattle.std.proofs.Common.{ap, ◌∙◌}
use Rattle.desk_data.specs.Situation.{planes_of}
use Rattle.desk_model.specs.Push.{rotation}
use Rattle.near_draft.specs.Legs.{numbers_of}
use Rattle.near_draft.proofs.BaseLaws.{list-at}
use Rattle.near_draft.proofs.base.Base.legs_of.Goals as goal

pub returns-clause-order : goal.returns-clause-order
returns-clause-order c =
    let b = c.self.inside in
    let are = c.self.invariant in
    let vec = c.index-self-plane.result in
    let within = rw (← c.self.view_is) at c.requires in
    rw (← c.self.view_is) (
    ap numbers_of c.as_slice.ensures.value
    ∙ list-at (λ some. numbers_of some.items) (rotation b.inst.now b.plan.now) b.legs.now (planes_of b.inst.now) c.args.plane.0 vec are.each within
    )

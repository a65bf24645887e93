use Rattle.std.proofs.Common.{arith}
use Rattle.desk_eval.proofs.evaluator.Evaluator.rotation.Goals as goal

pub rotation-requires : goal.rotation-requires
rotation-requires c =
    let within = rw (← c.self.view_is) at c.requires in
    let planes = c.self.invariant.0.boards.first.first.now.planes in
    omega (arith, within, planes)

pub returns-clause-order : goal.returns-clause-order
returns-clause-order c =
    let e = c.self.inside in
    rw (← c.self.view_is) (c.rotation.ensures.order e.inst e.pages _ c.self.invariant.0.valid c.self.invariant.0.boards)

pub returns-clause-within : goal.returns-clause-within
returns-clause-within c =
    let e = c.self.inside in
    rw (← c.self.view_is) (c.rotation.ensures.within e.inst e.pages _ c.self.invariant.0.valid c.self.invariant.0.boards)

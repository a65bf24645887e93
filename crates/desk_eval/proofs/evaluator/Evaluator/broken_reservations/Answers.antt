use Rattle.desk_eval.proofs.evaluator.Evaluator.broken_reservations.Goals as goal

pub returns : goal.returns
returns c =
    let e = c.self.inside in
    rw (← c.self.view_is) (c.broken_reservations.ensures e.inst e.pages _ c.self.invariant.0.boards)

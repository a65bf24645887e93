use Rattle.std.proofs.Common.{sym, subst}
use Rattle.std.specs.Arc.{arc_value}
use Rattle.desk_eval.specs.Asked.{AreBooked}
use Rattle.desk_eval.proofs.BookedLaws.{booked_same}
use Rattle.desk_eval.proofs.evaluator.Evaluator.of_same_day.Goals as goal

pub of_pages-requires-clause-booked : goal.of_pages-requires-clause-booked
of_pages-requires-clause-booked c =
    let e = c.self.inside in
    let same = rw (← c.self.view_is) at c.requires.day in
    subst (AreBooked c.args.inst) (sym c.in_ok-booked.ensures.cases) (booked_same e.inst c.args.inst (arc_value e.booked) same c.self.invariant.1)

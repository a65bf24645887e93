use Rattle.std.proofs.Common.{sym, subst}
use Rattle.board_kit.specs.Slots.{Enters}
use Rattle.board_kit.proofs.CountLaws.{entered}
use Rattle.board_kit.proofs.loads.Loads.enter.Goals as goal

pub returns-in-Some-clause-entered : goal.returns-in-Some-clause-entered
returns-in-Some-clause-entered c =
    subst (Enters c.args.self.now.loads c.step-in-Some.new.self.loads) (sym c.in-Some.is)
    (entered c.args.self.now.loads c.step.new.self.loads c.step-in-Some.new.self.loads c.in-Some.taken c.step.ensures.moved c.step.ensures.known c.step-in-Some.ensures.moved)

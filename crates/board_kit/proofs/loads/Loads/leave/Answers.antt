use Rattle.std.proofs.Common.{sym, subst}
use Rattle.board_kit.specs.Slots.{Leaves}
use Rattle.board_kit.proofs.CountLaws.{left_from}
use Rattle.board_kit.proofs.loads.Loads.leave.Goals as goal

pub returns-in-Some-clause-left : goal.returns-in-Some-clause-left
returns-in-Some-clause-left c =
    subst (Leaves c.args.self.now.loads c.step-in-Some.new.self.loads) (sym c.in-Some.is)
    (left_from c.args.self.now.loads c.step.new.self.loads c.step-in-Some.new.self.loads c.in-Some.taken c.step.ensures.moved c.step.ensures.known c.step-in-Some.ensures.moved)

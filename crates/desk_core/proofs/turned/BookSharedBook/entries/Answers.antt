use Rattle.desk_core.proofs.TurnedLaws.{turn_legal}
use Rattle.desk_core.proofs.turned.BookSharedBook.entries.Goals as goal

pub returns-clause-legal : goal.returns-clause-legal
returns-clause-legal c = turn_legal c.args.self.now.opening c.args.self.now.journal c.entries.ensures.legal

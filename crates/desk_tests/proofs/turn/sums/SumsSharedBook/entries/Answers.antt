use Rattle.std.proofs.Common.{◌+◌, take, sum, Some, refl}
use Rattle.desk_tests.proofs.turn.sums.SumsSharedBook.entries.Goals as goal

pub returns-clause-legal : goal.returns-clause-legal
returns-clause-legal c = λ k x e. (0, x, Some (sum (take k c.args.self.now.numbers.items) + x), tt, (refl, refl))

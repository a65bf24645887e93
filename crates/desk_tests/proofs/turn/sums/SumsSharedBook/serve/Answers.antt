use Rattle.std.proofs.Common.{rules, Some, refl, arith}
use Rattle.desk_tests.proofs.turn.sums.SumsSharedBook.serve.Goals as goal

pub returns-clause-ok : goal.returns-clause-ok
returns-clause-ok c = (Some c.args.ask.now, (refl, let a = c.args.self.now.added in omega (arith, a, c.from.ensures)), search rules, refl)

use Rattle.std.proofs.Common.{[], arith}
use Rattle.near_untouched.proofs.SamePlanLaws.{same-all}
use Rattle.near_untouched.proofs.same.has_same_groups.Goals as goal

pub returns-clause-yes : goal.returns-clause-yes
returns-clause-yes c = λ is.
    same-all [] c.args.one.now.groups c.args.other.now.groups c.args.reservations c.loop-r.r c.requires.one c.requires.other (omega (arith, c.loop-r-test.false)) c.loop-r.invariant

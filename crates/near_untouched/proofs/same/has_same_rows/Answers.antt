use Rattle.std.proofs.Common.{arith}
use Rattle.desk_data.specs.declared.row.Row.TheVariants.{Cancelled}
use Rattle.near_untouched.proofs.SamePlanLaws.{same-all}
use Rattle.near_untouched.proofs.same.has_same_rows.Goals as goal

pub returns-clause-yes : goal.returns-clause-yes
returns-clause-yes c = λ is.
    same-all Cancelled c.args.one.now.rows c.args.other.now.rows c.args.legs c.loop-x.x c.requires.one c.requires.other (omega (arith, c.loop-x-test.false)) c.loop-x.invariant

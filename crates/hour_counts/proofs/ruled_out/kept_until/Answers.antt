use Rattle.std.proofs.Common.{rules}
use Rattle.hour_counts.proofs.RuledOutLaws.{kept-some, kept-none}
use Rattle.hour_counts.proofs.ruled_out.kept_until.Goals as goal

pub returns-in-Some : goal.returns-in-Some
returns-in-Some c = kept-some c.args.inst.now c.args.plane.0 c.args.leg.0 c.args.at c.in-Some.end (search rules)

pub returns-in-None : goal.returns-in-None
returns-in-None c = kept-none c.args.inst.now c.args.plane.0 c.args.leg.0 c.args.at (search rules)

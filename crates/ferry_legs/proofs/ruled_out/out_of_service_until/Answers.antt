use Rattle.std.proofs.Common.{rules}
use Rattle.ferry_legs.proofs.RuledOutLaws.{span_out, no_span}
use Rattle.ferry_legs.proofs.ruled_out.out_of_service_until.Goals as goal

pub returns-in-Some : goal.returns-in-Some
returns-in-Some c = span_out c.args.inst.now c.args.way c.args.at c.in-Some.span (search rules)

pub returns-in-None : goal.returns-in-None
returns-in-None c = no_span c.args.inst.now c.args.way c.args.at (search rules)

use Rattle.std.proofs.Common.{length, sym, ◌∙◌}
use Rattle.std.proofs.lemmas.Bool.{eqb-true}
use Rattle.crew_duty.proofs.LoopLaws.{none_short}
use Rattle.crew_duty.proofs.rules.are_short.Goals as goal

pub returns-then-is_empty : goal.returns-then-is_empty
returns-then-is_empty c = none_short c.args.crew.now.duty c.args.crew.now.rest c.args.legs.now (eqb-true (length c.args.legs.now) 0 (sym c.is_empty.ensures ∙ c.if-is_empty.true))

use Rattle.std.proofs.Common.{◌∙◌}
use Rattle.crew_duty.proofs.BrokenLaws.{first_is_least}
use Rattle.crew_duty.proofs.broken.first_broken.Goals as goal

pub returns : goal.returns
returns c D cs P are = c.first.ensures.first ∙ first_is_least D cs P c.args.broken.now.items c.first.ensures.rising are

use Rattle.std.proofs.Common.{◌∙◌, sym}
use Rattle.ferry_legs.proofs.OwnLaws.{end_stands}
use Rattle.ferry_legs.proofs.lasts.end_of.Goals as goal

pub returns-clause-end : goal.returns-clause-end
returns-clause-end c =
    c.stand_within.ensures.stand
    ∙ sym (end_stands c.args.inst.now c.args.plan.now c.requires.plan c.args.lasts.now c.requires.lasts c.args.plane.0 c.requires.plane)

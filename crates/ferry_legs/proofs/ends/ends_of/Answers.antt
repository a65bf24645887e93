use Rattle.std.proofs.Common.{◌≡◌, ◌∙◌, arith}
use Rattle.desk_data.specs.Situation.{planes_of}
use Rattle.ferry_legs.proofs.StepLaws.{ends_are}
use Rattle.ferry_legs.proofs.ends.ends_of.Goals as goal

pub returns : goal.returns
returns c =
    let I = c.args.inst.now in
    let all : c.loop-p.p ≡ planes_of I = omega arith in
    ends_are I c.args.plan.now c.in_ok-lasts.lasts.items c.loop-p.ends.items c.requires c.in_ok-lasts.ensures
    (c.loop-p.invariant.planes ∙ all)
    (λ p lt. c.loop-p.invariant.each p (omega (arith, all, lt)))
    (λ p lt. c.loop-p.invariant.within p (omega (arith, all, lt)))

use Rattle.std.proofs.Common.{◌≡◌, map, ap, ◌∙◌}
use Rattle.near_moves.specs.MoveParts.{minute}
use Rattle.near_legs.specs.declared.choice.Choice.TheVariants.{Exchange}
use Rattle.near_legs.proofs.RunLaws.{all_taken}
use Rattle.near_legs.proofs.ChoiceLaws.{exchanges-are, exchanges-sound}
use Rattle.near_legs.proofs.choose.exchanges.Goals as goal

pub returns-clause-steps : goal.returns-clause-steps
returns-clause-steps c =
    let made : c.loop-at.all.items ≡ map (λ at. Exchange c.args.first c.args.second (minute at)) c.in_ok-moments.moments.items =
    c.loop-at.invariant ∙ ap (map (λ at. Exchange c.args.first c.args.second (minute at))) (all_taken c.deref-at-items.result.now c.loop-at.at-index c.loop-at-test.false ∙ c.deref-at-items.ensures.value) in
    exchanges-are c.args.inst.now c.args.plan.now c.args.first c.args.second c.loop-at.all.items c.in_ok-moments.moments.items made c.in_ok-moments.ensures

pub returns-clause-sound : goal.returns-clause-sound
returns-clause-sound c = exchanges-sound c.args.inst.now c.args.plan.now c.args.first c.args.second c.loop-at.all.items _ c.loop-at.invariant

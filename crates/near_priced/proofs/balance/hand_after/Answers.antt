use Rattle.std.proofs.Common.{arith}
use Rattle.near_draft.specs.Drafts.{plan_of}
use Rattle.near_priced.proofs.EndLaws.{hands-few, hands-one, hands-two, few-one, few-other}
use Rattle.near_priced.proofs.balance.hand_after.Goals as goal
use Rattle.near_priced.proofs.balance.hand_after.Goals.{in-Some, in-None}

pub overflow_add-hand : goal.overflow_add-hand
overflow_add-hand c =
    let I = c.args.inst.now in
    let P = c.args._plan.now in
    let Q = plan_of c.args._draft.now in
    let position = c.args.position.now in
    let few = hands-few I P position c.parts-rows.ensures.valid in
    let hand = c.requires.hand in
    let one = few-one I P Q position c.args.ends c.requires.ends in
    let come = c.counted-come.ensures in
    elim c.match-ends.branch [
      | in-Some w ↦
          let other = few-other I P Q position c.args.ends c.requires.ends w.in-Some.other in
          omega (arith, few, hand, one, come, other, w.counted-come-in-Some.ensures, w.come-is)
      | in-None w ↦ omega (arith, few, hand, one, come, w.come-is)
    ]

pub returns : goal.returns
returns c =
    let I = c.args.inst.now in
    let P = c.args._plan.now in
    let Q = plan_of c.args._draft.now in
    let position = c.args.position.now in
    let hand = c.requires.hand in
    let come = c.counted-come.ensures in
    let gone = c.counted-gone.ensures in
    let rest = c.saturating_sub.ensures in
    elim c.match-ends.branch [
      | in-Some w ↦
          let hands = hands-two I P Q position c.args.ends c.requires.ends w.in-Some.other w.in-Some.is in
          omega (arith, hand, come, gone, rest, hands, w.counted-come-in-Some.ensures, w.counted-gone-in-Some.ensures, w.come-is, w.gone-is)
      | in-None w ↦
          let hands = hands-one I P Q position c.args.ends c.requires.ends w.in-None.is in
          omega (arith, hand, come, gone, rest, hands, w.come-is, w.gone-is)
    ]

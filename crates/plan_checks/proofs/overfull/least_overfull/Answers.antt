use Rattle.std.proofs.Common.{◌≡◌, ◌<◌, true, length, arith, sym, ◌∙◌}
use Rattle.plan_checks.specs.TakenSlots.{is_one_too_many}
use Rattle.plan_checks.proofs.SortedLaws.{none_overfull, first_overfull}
use Rattle.plan_checks.proofs.overfull.least_overfull.Goals as goal

pub returns-then-is_one_too_many : goal.returns-then-is_one_too_many
returns-then-is_one_too_many c =
    let k = c.loop-k.k in
    let within : k < length c.args.sorted.now = omega (arith, c.loop-k-test.true) in
    let more : is_one_too_many c.args.inst.now c.args.sorted.now k ≡ true = sym c.is_one_too_many.ensures ∙ c.if-is_one_too_many.true in
    first_overfull c.args.inst.now c.args.sorted.now k c.requires.ranges c.requires.order within c.loop-k.invariant more

pub returns : goal.returns
returns c = λ slot.
    none_overfull c.args.inst.now c.args.sorted.now slot c.requires.order (λ k lt. c.loop-k.invariant k (omega (arith, lt, c.loop-k-test.false)))

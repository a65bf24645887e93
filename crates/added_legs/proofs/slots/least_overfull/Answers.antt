use Rattle.std.proofs.Common.{◌≡◌, ◌<◌, true, length, arith, sym, ◌∙◌}
use Rattle.std.specs.List.{All}
use Rattle.std.proofs.lemmas.List.Elements.{All-weaker}
use Rattle.hour_counts.specs.Slots.{IsSlot}
use Rattle.plan_checks.specs.TakenSlots.{is_one_too_many}
use Rattle.plan_checks.proofs.SortedLaws.{none_overfull, first_overfull}
use Rattle.added_legs.specs.Hours.{IsTaken}
use Rattle.added_legs.proofs.slots.least_overfull.Goals as goal

pub returns-then-is_one_too_many-clause-least : goal.returns-then-is_one_too_many-clause-least
returns-then-is_one_too_many-clause-least c =
    let I = c.args.inst.now in
    let ts = c.args.sorted.now in
    let k = c.loop-k.k in
    let within : k < length ts = omega (arith, c.loop-k-test.true) in
    let more : is_one_too_many I ts k ≡ true = sym c.is_one_too_many.ensures ∙ c.if-is_one_too_many.true in
    let ranges : All (IsSlot I) ts = All-weaker (IsTaken I c.args.movement) (IsSlot I) (λ s h. h.range) ts c.requires.ranges in
    first_overfull I ts k ranges c.requires.order within c.loop-k.invariant more

pub returns-clause-least : goal.returns-clause-least
returns-clause-least c = λ slot.
    none_overfull c.args.inst.now c.args.sorted.now slot c.requires.order (λ k lt. c.loop-k.invariant k (omega (arith, lt, c.loop-k-test.false)))

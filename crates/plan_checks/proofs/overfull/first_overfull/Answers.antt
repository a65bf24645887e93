use Rattle.std.proofs.Common.{sym, ap, ◌∙◌, subst}
use Rattle.std.specs.Prelude.{Some, None}
use Rattle.std.specs.List.{All}
use Rattle.std.specs.List.Sorted.{IsSorted}
use Rattle.std.proofs.lemmas.List.Sorted.{All-permutation}
use Rattle.hour_counts.specs.Slots.{IsSlot, slot_cmp}
use Rattle.plan_checks.proofs.TakenLaws.{sorted-breaks, sorted-movement}
use Rattle.plan_checks.proofs.SortedLaws.{sorted_are}
use Rattle.plan_checks.proofs.SlotItemLaws.{least_item}
use Rattle.plan_checks.proofs.overfull.first_overfull.Goals as goal

pub least_overfull-requires-clause-ranges : goal.least_overfull-requires-clause-ranges
least_overfull-requires-clause-ranges c =
    let inst = c.args.inst.now in
    subst (All (IsSlot inst)) (sym c.as_slice.ensures.value)
    (All-permutation (IsSlot inst) c.in_ok-slots.slots.items c.sort.new.self.items c.in_ok-sort.ensures.permutation c.in_ok-slots.ensures.ranges)

pub least_overfull-requires-clause-order : goal.least_overfull-requires-clause-order
least_overfull-requires-clause-order c =
    subst (IsSorted slot_cmp) (sym c.as_slice.ensures.value) (sorted_are c.sort.new.self.items c.in_ok-sort.ensures.sorted)

pub returns-in-Some : goal.returns-in-Some
returns-in-Some c =
    let inst = c.args.inst.now in
    let plan = c.args.plan.now in
    let made = c.in_ok-slots.slots.items in
    let ts = c.sort.new.self.items in
    let read = c.as_slice.result.now in
    ap Some c.item.ensures
    ∙ sym (least_item inst plan c.args.movement read (Some c.in-Some.slot)
    (sorted-breaks inst plan c.args.movement made ts read c.in_ok-slots.ensures.taken c.in_ok-sort.ensures.permutation c.as_slice.ensures.value)
    (sorted-movement inst plan c.args.movement made ts read c.in_ok-slots.ensures.taken c.in_ok-sort.ensures.permutation c.as_slice.ensures.value)
    c.in-Some.ensures)

pub returns : goal.returns
returns c =
    let inst = c.args.inst.now in
    let plan = c.args.plan.now in
    let made = c.in_ok-slots.slots.items in
    let ts = c.sort.new.self.items in
    let read = c.as_slice.result.now in
    sym (least_item inst plan c.args.movement read None
    (sorted-breaks inst plan c.args.movement made ts read c.in_ok-slots.ensures.taken c.in_ok-sort.ensures.permutation c.as_slice.ensures.value)
    (sorted-movement inst plan c.args.movement made ts read c.in_ok-slots.ensures.taken c.in_ok-sort.ensures.permutation c.as_slice.ensures.value)
    c.in-None.ensures)

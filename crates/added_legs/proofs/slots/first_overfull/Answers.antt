use Rattle.std.proofs.Common.{◌≡◌, ◌++◌, length, sym, ap, ◌∙◌, subst}
use Rattle.std.specs.Prelude.{Some, None}
use Rattle.std.specs.List.{All}
use Rattle.std.specs.List.Sorted.{IsSorted}
use Rattle.std.proofs.lemmas.List.Sorted.{All-permutation}
use Rattle.desk_data.specs.Situation.{legs_of, planes_of}
use Rattle.hour_counts.specs.Slots.{slot_cmp}
use Rattle.plan_checks.proofs.SortedLaws.{sorted_are}
use Rattle.added_legs.specs.Merged.{merged_day, merged_plan}
use Rattle.added_legs.specs.Hours.{IsTaken, extra_slots}
use Rattle.added_legs.proofs.HourLaws.{taken-breaks, least_item}
use Rattle.added_legs.proofs.slots.first_overfull.Goals as goal

pub least_overfull-requires-clause-ranges : goal.least_overfull-requires-clause-ranges
least_overfull-requires-clause-ranges c =
    let T = IsTaken c.args.inst.now c.args.movement in
    subst (All T) (sym c.as_slice.ensures.value)
    (All-permutation T c.add_slots.new.taken.items c.sort.new.self.items c.in_ok-sort.ensures.permutation c.in_ok-add_slots.ensures.ranges)

pub least_overfull-requires-clause-order : goal.least_overfull-requires-clause-order
least_overfull-requires-clause-order c =
    subst (IsSorted slot_cmp) (sym c.as_slice.ensures.value) (sorted_are c.sort.new.self.items c.in_ok-sort.ensures.sorted)

pub returns-in-Some : goal.returns-in-Some
returns-in-Some c =
    let I = c.args.inst.now in
    let P = c.args.plan.now in
    let A = c.args.added.now in
    let flights = c.args.flights.now in
    let movement = c.args.movement in
    let all : length P.rows ≡ legs_of I = c.requires.plan.legs in
    let made = c.add_slots.new.taken.items in
    let is = c.in_ok-add_slots.ensures.taken ∙ ap (λ ts. ts ++ extra_slots I movement flights (planes_of I)) c.in_ok-taken.ensures.taken in
    let same = taken-breaks I P A c.parts-rows.ensures.valid all flights c.requires.flights movement made c.sort.new.self.items c.as_slice.result.now is c.in_ok-sort.ensures.permutation c.as_slice.ensures.value in
    ap Some c.item.ensures
    ∙ sym (least_item I (merged_day I P A) (merged_plan I P A) movement c.as_slice.result.now (Some c.in-Some.slot) same c.in-Some.ensures.movement c.in-Some.ensures.least)

pub returns : goal.returns
returns c =
    let I = c.args.inst.now in
    let P = c.args.plan.now in
    let A = c.args.added.now in
    let flights = c.args.flights.now in
    let movement = c.args.movement in
    let all : length P.rows ≡ legs_of I = c.requires.plan.legs in
    let made = c.add_slots.new.taken.items in
    let is = c.in_ok-add_slots.ensures.taken ∙ ap (λ ts. ts ++ extra_slots I movement flights (planes_of I)) c.in_ok-taken.ensures.taken in
    let same = taken-breaks I P A c.parts-rows.ensures.valid all flights c.requires.flights movement made c.sort.new.self.items c.as_slice.result.now is c.in_ok-sort.ensures.permutation c.as_slice.ensures.value in
    sym (least_item I (merged_day I P A) (merged_plan I P A) movement c.as_slice.result.now None same c.in-None.ensures.movement c.in-None.ensures.least)

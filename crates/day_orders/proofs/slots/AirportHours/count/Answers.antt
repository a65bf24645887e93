use Rattle.std.proofs.Common.{◌≡◌, List, subst, ◌∙◌, arith, ◌-◌}
use Rattle.day_orders.specs.declared.slots.AirportHour.{AirportHour}
use Rattle.day_orders.specs.Slots.{slot_count}
use Rattle.day_orders.proofs.SlotLemmas.{count-up_to}
use Rattle.day_orders.proofs.slots.AirportHours.count.Goals as goal

pub overflow_sub-result : goal.overflow_sub-result
overflow_sub-result c =
    let sum = count-up_to c.args.airport.0 c.args.hour c.as_slice-slots.result.now in
    omega (arith, c.count_before-before.ensures, c.count_up_to-up_to.ensures, sum)

pub returns : goal.returns
returns c =
    let a = c.args.airport.0 in
    let h = c.args.hour in
    let slots = c.as_slice-slots.result.now in
    let sum = count-up_to a h slots in
    let same : slots ≡ c.args.self.now = c.as_slice-slots.ensures.value ∙ c.self.view_is in
    subst (λ (l : List AirportHour). c.count_up_to-up_to.result - c.count_before-before.result ≡ slot_count a h l) same
    (omega (arith, c.count_before-before.ensures, c.count_up_to-up_to.ensures, sum))

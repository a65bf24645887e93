use Rattle.std.proofs.Common.{◌≡◌, refl, ap, ◌∙◌}
use Rattle.day_orders.specs.Slots.{slot_count}
use Rattle.desk_data.specs.declared.left.Left.{Left}
use Rattle.desk_data.specs.Hours.{dep_cap, frozen_departures}
use Rattle.desk_data.specs.Situation.{Situation}
use Rattle.desk_data.proofs.instance.Instance.dep_cap.Goals as goal

pub returns : goal.returns
unfolding dep_cap
returns c =
    let a = c.args.airport.0 in
    let h = c.args.hour in
    let kept = c.self.invariant.left_kept.departures a h in
    let count : c.count-frozen.result ≡ frozen_departures c.args.self.now a h =
    c.count-frozen.ensures ∙ (ap (λ (left : Left). slot_count a h left.departures) c.deref.ensures ∙ (kept ∙ ap (λ (I : Situation). frozen_departures I a h) c.self.view_is)) in
    rw (c.max.ensures, count, ← c.hour_cap.ensures, c.in_ok-cap.was) refl

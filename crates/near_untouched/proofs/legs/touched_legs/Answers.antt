use Rattle.std.proofs.Common.{◌≡◌, ℕ, sym, subst}
use Rattle.desk_data.specs.Situation.{legs_of}
use Rattle.desk_data.specs.PlanRows.{row_at}
use Rattle.hour_counts.specs.declared.slot.Movement.TheVariants.{Departure, Arrival}
use Rattle.near_untouched.specs.Marks.{AreKept, AreRowsTold}
use Rattle.near_untouched.specs.Hours.{HasSameRoom}
use Rattle.near_untouched.proofs.MarkLaws.{holds-kept}
use Rattle.near_untouched.proofs.legs.touched_legs.Goals as goal

pub returns : goal.returns
returns g c =
    let I = c.args.plans.now.inst.now in
    let P = c.args.plans.now.earlier.now in
    let Q = c.args.plans.now.later.now in
    let n = legs_of I in
    let one = c.in_ok-touched.touched.items in
    let two = c.touch_hours.new.touched.items in
    let three = c.touch_hours-2.new.touched.items in
    let four = c.touch_passengers.new.touched.items in
    let third : AreKept three four = c.touch_passengers.ensures.kept in
    let second : AreKept two four = λ k on. third k (c.touch_hours-2.ensures.kept k on) in
    let first : AreKept one four = λ k on. second k (c.touch_hours.ensures.kept k on) in
    let rows = holds-kept n one four (λ (y : ℕ). row_at P y ≡ row_at Q y) first c.in_ok-touched.ensures.same in
    let leaves = holds-kept n two four (HasSameRoom Departure I P Q) second c.in_ok-touch_hours.ensures.room in
    let comes = holds-kept n three four (HasSameRoom Arrival I P Q) third c.in_ok-touch_hours-2.ensures.room in
    record {
      all = c.touch_passengers.ensures.touched;
      untouched = λ y lt off. record {
        row = rows y lt off;
        departures = leaves y lt off;
        arrivals = comes y lt off;
        users = c.in_ok-touch_passengers.ensures.users y lt off;
      };
    }

pub touch_passengers-requires-clause-rows : goal.touch_passengers-requires-clause-rows
touch_passengers-requires-clause-rows g c =
    subst (AreRowsTold c.args.plans.now.inst.now c.args.plans.now.earlier.now c.args.plans.now.later.now) (sym c.as_slice.ensures.value) c.in_ok-rows.ensures

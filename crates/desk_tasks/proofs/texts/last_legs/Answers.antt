use Rattle.std.proofs.Common.{◌≡◌, List, length, drop, sym, subst, arith}
use Rattle.std.specs.Prelude.{Option}
use Rattle.std.proofs.lemmas.List.{take_at}
use Rattle.desk_units.specs.declared.numbers.Leg.{Leg}
use Rattle.added_legs.specs.Flights.{AreLastLegs}
use Rattle.added_legs.proofs.FlightLaws.{are_last}
use Rattle.desk_tasks.proofs.texts.last_legs.Goals as goal

pub returns : goal.returns
returns c =
    let made = c.put_lasts.new.lasts in
    let long : length made ≡ c.in_ok-lasts.lasts.len = omega (arith, c.put_lasts.ensures.planes, c.planes.ensures.count, c.in_ok-lasts.ensures.len) in
    subst (λ (lasts : List (Option Leg)). AreLastLegs c.args.inst.now c.args.plan.now lasts)
    (sym (take_at made (drop (length made) c.in_ok-lasts.lasts.items) c.in_ok-lasts.lasts.len long))
    (are_last c.args.inst.now c.args.plan.now made c.requires c.put_lasts.ensures)

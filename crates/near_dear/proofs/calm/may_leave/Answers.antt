use Rattle.std.proofs.Common.{◌≡◌, ◌-◌, ◌<◌, rules, arith}
use Rattle.std.proofs.lemmas.Bool.{ltb-true}
use Rattle.desk_model.specs.Push.{departures_beside}
use Rattle.hour_counts.specs.declared.slot.Movement.TheVariants.{Departure}
use Rattle.near_untouched.proofs.RoomLaws.{roomy-some}
use Rattle.near_dear.proofs.calm.may_leave.Goals as goal

pub returns-in-Some : goal.returns-in-Some
returns-in-Some g c = λ is.
    (let I = c.args.inst.now in
    let P = c.args.plan.now in
    let a = c.args.airport.0 in
    let h = c.args.hour in
    let less : c.saturating_sub.result ≡ c.in-Some.cap - 17 = search rules in
    let below : c.departures_beside-others.result < c.saturating_sub.result = ltb-true c.departures_beside-others.result c.saturating_sub.result is in
    let others : c.departures_beside-others.result ≡ departures_beside I P 0 a h = search rules in
    roomy-some Departure I P 0 a h c.departures_beside-others.result c.in-Some.cap c.requires.some c.in-Some.ensures others (omega (arith, less, below)))

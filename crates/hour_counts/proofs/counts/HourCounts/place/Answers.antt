use Rattle.std.proofs.Common.{ℕ, ◌≤◌, arith, sym, subst}
use Rattle.std.specs.Prelude.{Option}
use Rattle.std.proofs.lemmas.Result.{on_ok_weaker}
use Rattle.desk_data.specs.Situation.{legs_of}
use Rattle.hour_counts.specs.Counts.{Counted, AreCountsOf, Enters, Leaves}
use Rattle.hour_counts.proofs.CountLaws.{other_counted}
use Rattle.hour_counts.proofs.counts.HourCounts.place.Goals as goal

pub returns : goal.returns
returns c = λ Q plan here are.
    let I = c.args.inst.now in
    let x = c.args.leg.0 in
    let old : Counted = record { departures = c.self.inside.departures; arrivals = c.self.inside.arrivals } in
    let mid : Counted = record { departures = c.enter.new.self; arrivals = c.enter-2.new.self } in
    let new : Counted = record { departures = c.leave.new.self; arrivals = c.leave-2.new.self } in
    let most : legs_of I ≤ 20000 = omega (arith, c.legs.ensures.count, c.legs.ensures.limit) in
    let before : AreCountsOf I Q old = subst (AreCountsOf I Q) (sym c.self.view_is) are in
    on_ok_weaker c.leave-2.result (λ d.
    other_counted I Q x c.args.was c.args.new old mid new c.requires.leg most plan here before
    (record {
      departures = subst (λ (come : Option (ℕ × ℕ)). Enters old.departures mid.departures come) c.departure_of.ensures c.in_ok-enter.ensures;
      arrivals = subst (λ (come : Option (ℕ × ℕ)). Enters old.arrivals mid.arrivals come) c.arrival_of.ensures c.in_ok-enter-2.ensures;
    })
    (subst (λ (gone : Option (ℕ × ℕ)). Leaves mid.departures new.departures gone) c.departure_of-2.ensures c.in_ok-leave.ensures)
    (subst (λ (gone : Option (ℕ × ℕ)). Leaves mid.arrivals new.arrivals gone) c.arrival_of-2.ensures d)) c.leave-2.ensures

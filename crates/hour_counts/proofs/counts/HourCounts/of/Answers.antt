use Rattle.std.proofs.Common.{ℕ, arith, subst}
use Rattle.std.specs.Prelude.{Option}
use Rattle.desk_data.specs.declared.row.Row.{Row}
use Rattle.hour_counts.specs.Counts.{Enters, departure_of, arrival_of}
use Rattle.hour_counts.proofs.CountLaws.{one_counted}
use Rattle.hour_counts.proofs.counts.HourCounts.of.Goals as goal

pub loop-x-preserved : goal.loop-x-preserved
loop-x-preserved g c =
    let I = c.args.inst.now in
    let x = c.loop-x.x in
    let limit = c.legs-x-end.ensures.limit in
    let row = c.read_row-row.ensures.row in
    one_counted I (g.P.ReadPlan.plan_of c.args.plan.now) x (record { departures = c.loop-x.counts-inside.departures; arrivals = c.loop-x.counts-inside.arrivals }) (record { departures = c.enter.new.self; arrivals = c.enter-in-loop-x.new.self }) (omega (arith, limit)) c.loop-x.invariant
    (record {
      departures = subst (λ (r : Row). Enters c.loop-x.counts-inside.departures c.enter.new.self (departure_of I x r)) row (subst (λ (come : Option (ℕ × ℕ)). Enters c.loop-x.counts-inside.departures c.enter.new.self come) c.departure_of.ensures c.in_ok-enter.ensures);
      arrivals = subst (λ (r : Row). Enters c.loop-x.counts-inside.arrivals c.enter-in-loop-x.new.self (arrival_of I x r)) row (subst (λ (come : Option (ℕ × ℕ)). Enters c.loop-x.counts-inside.arrivals c.enter-in-loop-x.new.self come) c.arrival_of.ensures c.in_ok-enter-2.ensures);
    })

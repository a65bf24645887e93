use Rattle.std.proofs.Common.{List, [], ◌∷◌, ◌++◌, sym, ap, ◌∙◌}
use Rattle.near_pax.specs.declared.flights.Flight.{Flight}
use Rattle.near_pax.proofs.FlightLaws.{flights-flown, flights-off}
use Rattle.near_pax.proofs.flights.flown_flights.Goals as goal
use Rattle.near_pax.proofs.flights.flown_flights.Goals.{in-Flown+in_ok-push-in-Flown, in-Cancelled}

pub loop-x-preserved : goal.loop-x-preserved
loop-x-preserved c =
    let I = c.args.inst.now in
    let P = c.args.plan.now in
    let x = c.loop-x.x in
    elim c.match-read_row.branch [
      | in-Flown+in_ok-push-in-Flown w ↦
          let f : Flight = record { from = c.leg-info.result.now.origin; to = c.leg-info.result.now.dest; dep = w.in-Flown.dep; leg = record { 0 = x } } in
          ap (λ v. v.items) w.flights-is ∙ w.in_ok-push-in-Flown.ensures.items
          ∙ ap (λ (fs : List Flight). fs ++ f ∷ []) c.loop-x.invariant
          ∙ rw (c.leg-info.ensures.row) (sym (flights-flown I P x w.in-Flown.plane w.in-Flown.dep (sym w.in-Flown.ensures.row)))
      | in-Cancelled w ↦ ap (λ v. v.items) w.flights-is ∙ c.loop-x.invariant ∙ sym (flights-off I P x (sym w.in-Cancelled.ensures.row))
    ]

use Rattle.std.proofs.Common.{List, get_or, sym, ap, ◌∙◌}
use Rattle.desk_data.specs.declared.row.Row.{Row}
use Rattle.desk_data.specs.declared.row.Row.TheVariants.{Cancelled}
use Rattle.near_untouched.proofs.HourLaws.{same-departures}
use Rattle.near_untouched.proofs.later_hours.SameHoursKnowsHours.departures_beside.Goals as goal

pub returns : goal.returns
returns g c = λ Q here knows.
    (let R = c.args.self.now.plan.now in
    c.departures_beside.ensures R (ap (λ (rows : List Row). get_or rows c.args.leg.0 Cancelled) (sym knows.1) ∙ here) knows.0
    ∙ same-departures c.args.inst.now R Q c.args.leg.0 c.args.airport.0 c.args.hour (sym knows.1))

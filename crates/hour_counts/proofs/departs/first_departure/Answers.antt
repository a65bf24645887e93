use Rattle.std.proofs.Common.{rules, ◌≡◌, max}
use Rattle.std.specs.Option.{option_map}
use Rattle.desk_data.specs.Situation.{earliest}
use Rattle.desk_model.specs.Push.{ready_moment}
use Rattle.hour_counts.proofs.DepartLaws.{first_departure-from, found-from}
use Rattle.hour_counts.proofs.departs.first_departure.Goals as goal

pub returns-clause-at : goal.returns-clause-at
returns-clause-at g c =
    let I = c.args.inst.now in
    let Q = g.P.ReadPlan.plan_of c.args.plan.now in
    let placing = c.args.placing.now in
    let low : c.max-low.result ≡ max (ready_moment I Q c.args.plane.0 placing.leg.0 (option_map (λ leg. leg.0) placing.before)) (earliest I placing.leg.0) = search rules in
    found-from I Q c.args.plane.0 placing.leg.0 c.max-low.result (max (ready_moment I Q c.args.plane.0 placing.leg.0 (option_map (λ leg. leg.0) placing.before)) (earliest I placing.leg.0)) (option_map (λ t. t.0) c.first_from.result) c.first_from.ensures.first low

pub returns-clause-first : goal.returns-clause-first
returns-clause-first g c = λ start is.
    let I = c.args.inst.now in
    let Q = g.P.ReadPlan.plan_of c.args.plan.now in
    let placing = c.args.placing.now in
    let low : c.max-low.result ≡ max (ready_moment I Q c.args.plane.0 placing.leg.0 (option_map (λ leg. leg.0) placing.before)) (earliest I placing.leg.0) = search rules in
    first_departure-from I start Q c.args.plane.0 placing.leg.0 c.max-low.result (option_map (λ leg. leg.0) placing.before) (option_map (λ t. t.0) c.first_from.result) c.first_from.ensures.first is.before low

use Rattle.std.proofs.Common.{◌<◌, length, subst, [], arith}
use Rattle.std.proofs.lemmas.List.{length-map, get_or-map}
use Rattle.desk_data.specs.PlanRows.{AreGroups}
use Rattle.desk_data.proofs.plan.Plan.groups.Goals as goal

pub returns-clause-sound : goal.returns-clause-sound
returns-clause-sound c =
    let within = rw (← c.self.view_is) at c.requires in
    let within_items : c.args.res.0 < length c.self.inside.groups.items = omega (arith, within, length-map c.self.inside.groups.items (λ g. g.items)) in
    let at_res = get_or-map (λ g. g.items) c.self.inside.groups.items c.args.res.0 c.index.result.now [] within_items in
    subst AreGroups (cc) (c.self.invariant.groups c.args.res.0 [] within)

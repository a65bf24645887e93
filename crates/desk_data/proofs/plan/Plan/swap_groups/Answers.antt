use Rattle.std.proofs.Common.{◌≡◌, ap}
use Rattle.std.proofs.lemmas.List.{map-set}
use Rattle.std.proofs.lemmas.List.Elements.{All-set}
use Rattle.desk_data.specs.PlanRows.{AreGroups}
use Rattle.desk_data.proofs.plan.Plan.swap_groups.Goals as goal

pub invariant_of-self : goal.invariant_of-self
invariant_of-self c =
    let came : c.swap.new.x.items ≡ c.args.groups.now.items = ap (λ v. v.items) c.swap.ensures.x_after in
    record {
      rows = c.self.invariant.rows;
      groups = rw (map-set, came) (All-set AreGroups _ _ _ c.requires.groups c.self.invariant.groups);
    }

pub returns-clause-plan : goal.returns-clause-plan
returns-clause-plan c =
    let came : c.swap.new.x.items ≡ c.args.groups.now.items = ap (λ v. v.items) c.swap.ensures.x_after in
    rw (← c.self.view_is, map-set, came)

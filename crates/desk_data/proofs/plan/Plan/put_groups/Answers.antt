use Rattle.std.proofs.lemmas.List.{map-set}
use Rattle.std.proofs.lemmas.List.Elements.{All-set}
use Rattle.desk_data.specs.PlanRows.{AreGroups}
use Rattle.desk_data.proofs.plan.Plan.put_groups.Goals as goal

pub invariant_of-self : goal.invariant_of-self
invariant_of-self c = record {
  rows = c.self.invariant.rows;
  groups = rw map-set (All-set AreGroups _ _ _ c.requires.groups c.self.invariant.groups);
}

pub returns : goal.returns
returns c = rw (← c.self.view_is, map-set)

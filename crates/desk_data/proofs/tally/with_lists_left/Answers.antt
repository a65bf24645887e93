use Rattle.std.proofs.Common.{map, take}
use Rattle.std.specs.Prelude.{filter}
use Rattle.desk_data.specs.declared.row.Group.{Group}
use Rattle.desk_data.specs.Paths.{is_carried}
use Rattle.desk_data.specs.Situation.{gone_in}
use Rattle.desk_data.proofs.TallySteps.{lent, still_ascends}
use Rattle.desk_data.proofs.tally.with_lists_left.Goals as goal

pub put_list-requires : goal.put_list-requires
put_list-requires c =
    still_ascends (lent c.loop-group.lists.items) (lent c.args.lists.items)
    (map (λ (group : Group). gone_in c.args.frozen.now group.path) (filter (λ (group : Group). is_carried group.path) (take c.loop-group.group-index c.args.groups.now)))
    c.loop-group.invariant c.requires

use Rattle.std.proofs.Common.{map, take, []}
use Rattle.desk_data.specs.Situation.{PassengersGone}
use Rattle.desk_data.proofs.GoneLists.{IsBefore}
use Rattle.desk_data.proofs.PathOrder.{pairs_nil}
use Rattle.desk_data.proofs.TallySteps.{lent, still_ascends}
use Rattle.desk_data.proofs.tally.lists_were.Goals as goal

pub put_list-requires : goal.put_list-requires
put_list-requires c = still_ascends (lent c.loop-entry.lists.items) [] (map (λ (entry : PassengersGone). entry.0) (take c.loop-entry.entry-index c.args.tally.now)) c.loop-entry.invariant (pairs_nil IsBefore)

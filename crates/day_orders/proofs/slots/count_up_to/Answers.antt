use Rattle.std.proofs.Common.{sym, rules}
use Rattle.std.proofs.lemmas.List.Sorted.{IsPartitionPoint-from_clause}
use Rattle.day_orders.specs.Slots.{is_up_to}
use Rattle.day_orders.proofs.SlotLemmas.{parted-up_to, count-parted}
use Rattle.day_orders.proofs.slots.count_up_to.Goals as goal

pub returns : goal.returns
returns c =
    let test = is_up_to c.args.airport.0 c.args.hour in
    let slots = c.args.slots.now in
    let point = IsPartitionPoint-from_clause test slots c.partition_point.result c.partition_point.ensures.partitioned (parted-up_to c.args.airport.0 c.args.hour slots c.requires) (λ a r q k. search rules) in
    sym (count-parted test slots c.partition_point.result c.partition_point.ensures.bound point)

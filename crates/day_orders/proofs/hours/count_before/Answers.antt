use Rattle.std.proofs.Common.{◌≡◌, true, false, ltb, rules}
use Rattle.std.specs.List.Sorted.{IsPartitionPoint}
use Rattle.std.proofs.lemmas.Bool.{ltb-true, ltb-false}
use Rattle.std.proofs.lemmas.List.Elements.{All-weaker}
use Rattle.std.proofs.lemmas.List.Sorted.{IsPartitionPoint-from_clause, IsPartitionedBy-ltb}
use Rattle.day_orders.specs.declared.hours.CapChange.{CapChange}
use Rattle.day_orders.proofs.ChangeLemmas.{All-front, All-rest}
use Rattle.day_orders.proofs.hours.count_before.Goals as goal

pub returns-clause-front : goal.returns-clause-front
returns-clause-front c =
    let t = c.args.hour in
    let point : IsPartitionPoint (λ (x : CapChange). ltb x.hour t ≡ true) (λ (x : CapChange). ltb x.hour t ≡ false) c.args.changes.now c.partition_point.result
    = IsPartitionPoint-from_clause (λ (x : CapChange). ltb x.hour t) c.args.changes.now c.partition_point.result c.partition_point.ensures.partitioned (IsPartitionedBy-ltb (λ (x : CapChange). x.hour) c.args.changes.now t c.requires) (λ a r f q. search rules) in
    All-weaker (λ (x : CapChange). ltb x.hour t ≡ true) _ (λ x h. ltb-true x.hour t h) _ (All-front (λ (x : CapChange). ltb x.hour t ≡ true) _ _ point.0)

pub returns-clause-rest : goal.returns-clause-rest
returns-clause-rest c =
    let t = c.args.hour in
    let point : IsPartitionPoint (λ (x : CapChange). ltb x.hour t ≡ true) (λ (x : CapChange). ltb x.hour t ≡ false) c.args.changes.now c.partition_point.result
    = IsPartitionPoint-from_clause (λ (x : CapChange). ltb x.hour t) c.args.changes.now c.partition_point.result c.partition_point.ensures.partitioned (IsPartitionedBy-ltb (λ (x : CapChange). x.hour) c.args.changes.now t c.requires) (λ a r f q. search rules) in
    All-weaker (λ (x : CapChange). ltb x.hour t ≡ false) _ (λ x h. ltb-false x.hour t h) _ (All-rest (λ (x : CapChange). ltb x.hour t ≡ false) _ _ point.1)

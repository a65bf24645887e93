use Rattle.std.proofs.Common.{◌++◌, [], ◌∷◌, take, ap, ◌∙◌}
use Rattle.std.proofs.lemmas.List.{append_assoc}
use Rattle.desk_build.specs.Batches.{order_of, orders_of}
use Rattle.desk_build.proofs.OrderLemmas.{orders_more}
use Rattle.desk_build.proofs.batches.push_orders.Goals as goal

pub loop-row-preserved : goal.loop-row-preserved
loop-row-preserved c =
    let x = c.args.tables.now.files.now in
    let rows = c.args.rows.now in
    let row = c.row-item.result in
    let before = c.args.orders.now.items in
    c.in_ok-push_order.ensures
    ∙ ap (λ items. items ++ orders_of x (row ∷ [])) c.loop-row.invariant
    ∙ append_assoc before (orders_of x (take c.loop-row.row-index rows)) (orders_of x (row ∷ []))
    ∙ ap (λ items. before ++ items) (orders_more (order_of x) rows c.loop-row.row-index row c.loop-row-test.true c.row-item.is)

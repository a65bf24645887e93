use Rattle.std.proofs.Common.{◌<◌, length, [], arith}
use Rattle.std.proofs.lemmas.List.{map-set, length-map, get_or-map}
use Rattle.day_orders.proofs.kept.OrderTables.push_span.Goals as goal

pub returns : goal.returns
returns c =
    let was = c.index_mut.ensures.value in
    let pushed = c.in_ok-push.ensures.items in
    let within = rw (← c.self.view_is) at c.requires in
    let within_items : c.args.plane.0 < length c.self.inside.spans.items = omega (arith, within, length-map c.self.inside.spans.items (λ s. s.items)) in
    let at_plane = get_or-map (λ s. s.items) c.self.inside.spans.items c.args.plane.0 c.index_mut.result.now [] within_items in
    rw (← c.self.view_is, map-set) (cc)

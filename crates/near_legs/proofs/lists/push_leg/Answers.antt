use Rattle.std.proofs.Common.{◌<◌, length, []}
use Rattle.std.proofs.lemmas.List.{map-set, get_or-map}
use Rattle.near_legs.proofs.lists.push_leg.Goals as goal

pub returns : goal.returns
returns c =
    let was = c.index_mut.ensures.value in
    let pushed = c.in_ok-push.ensures.items in
    let within : c.args.number < length c.args.lists.now.items = c.requires in
    let at_number = get_or-map (λ s. s.items) c.args.lists.now.items c.args.number c.index_mut.result.now [] within in
    rw (map-set) (cc)

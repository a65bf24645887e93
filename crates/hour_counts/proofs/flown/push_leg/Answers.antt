use Rattle.std.proofs.Common.{◌<◌, length, []}
use Rattle.std.proofs.lemmas.List.{map-set, get_or-map}
use Rattle.hour_counts.proofs.flown.push_leg.Goals as goal

pub returns : goal.returns
returns c =
    let was = c.index_mut.ensures.value in
    let pushed = c.in_ok-push.ensures.items in
    let within : c.args.plane.0 < length c.args.legs.now.items = c.requires in
    let at_plane = get_or-map (λ s. s.items) c.args.legs.now.items c.args.plane.0 c.index_mut.result.now [] within in
    rw (map-set) (cc)

use Rattle.std.proofs.Common.{◌<◌, length, []}
use Rattle.std.proofs.lemmas.List.{map-set, get_or-map}
use Rattle.ferry_legs.proofs.positions.push_position.Goals as goal

pub returns : goal.returns
returns c =
    let was = c.index_mut.ensures.value in
    let pushed = c.in_ok-push.ensures.items in
    let place = c.args.position.airport.0 in
    let within : place < length c.args.airports.now.items = c.requires in
    let at_place = get_or-map (λ s. s.items) c.args.airports.now.items place c.index_mut.result.now [] within in
    rw (map-set) (cc)

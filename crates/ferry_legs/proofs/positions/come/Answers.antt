use Rattle.std.proofs.Common.{◌<◌, length, []}
use Rattle.std.proofs.lemmas.List.{map-set, get_or-map}
use Rattle.ferry_legs.proofs.positions.come.Goals as goal

pub returns : goal.returns
returns c =
    let was = c.index_mut.ensures.value in
    let changed = c.add_one.ensures in
    let place = c.args.airport.0 in
    let within : place < length c.args.airports.now.items = c.requires.airport in
    let at_place = get_or-map (λ s. s.items) c.args.airports.now.items place c.index_mut.result.now [] within in
    rw (map-set) (cc)

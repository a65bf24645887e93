use Rattle.std.proofs.Common.{◌<◌, length, sym, ◌∙◌, arith}
use Rattle.std.specs.Prelude.{None}
use Rattle.std.proofs.lemmas.List.{get_or_default}
use Rattle.near_search.proofs.exchanges.times_at.Goals as goal

pub returns : goal.returns
returns c = λ x is.
    (let are = c.requires.rotations.times in
    let planes = are.planes in
    let lt = c.requires.plane in
    let p = c.args.plane.0 in
    let all = c.args.rotations.now.times.items in
    let within : p < length all = omega (arith, planes, lt) in
    are.each p lt x (get_or_default all p None c.index.result.now within ∙ sym c.index.ensures ∙ is))

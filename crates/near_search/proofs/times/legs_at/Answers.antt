use Rattle.std.proofs.Common.{◌<◌, List, ap, sym, subst, ◌∙◌, arith}
use Rattle.std.specs.List.{All}
use Rattle.std.proofs.lemmas.List.Elements.{All-get_or}
use Rattle.desk_units.specs.declared.numbers.Leg.{Leg}
use Rattle.desk_data.specs.Situation.{legs_of, planes_of}
use Rattle.desk_model.specs.Push.{rotation}
use Rattle.near_search.specs.Rotations.{numbers_of}
use Rattle.near_search.proofs.RotationLaws.{list-at, lists-long}
use Rattle.near_search.proofs.times.legs_at.Goals as goal

pub bounds-rotations-plane : goal.bounds-rotations-plane
bounds-rotations-plane c =
    let I = c.args._inst.now in
    let P = c.args._plan.now in
    let long = lists-long (λ legs. numbers_of legs.items) (rotation I P) c.args.rotations.now (planes_of I) c.requires.each in
    let within = c.requires.plane in
    omega (arith, long, within)

pub returns-clause-order : goal.returns-clause-order
returns-clause-order c =
    let I = c.args._inst.now in
    let P = c.args._plan.now in
    let vec = c.index-rotations-plane.result in
    ap numbers_of c.as_slice.ensures.value
    ∙ ap (λ legs. numbers_of legs.items) c.index-rotations-plane.is
    ∙ list-at (λ legs. numbers_of legs.items) (rotation I P) c.args.rotations.now (planes_of I) c.args.plane.0 vec c.requires.each c.requires.plane

pub returns-clause-within : goal.returns-clause-within
returns-clause-within c =
    let I = c.args._inst.now in
    let P = c.args._plan.now in
    let rotations = c.args.rotations.now in
    let vec = c.index-rotations-plane.result in
    let legs_in : List Leg → Type 0 = λ (legs : List Leg). All (λ (leg : Leg). leg.0 < legs_of I) legs in
    let long = lists-long (λ legs. numbers_of legs.items) (rotation I P) rotations (planes_of I) c.requires.each in
    let within = c.requires.plane in
    let at = All-get_or (λ legs. legs_in legs.items) rotations c.args.plane.0 vec (omega (arith, long, within)) c.requires.within in
    subst legs_in (sym (c.as_slice.ensures.value ∙ ap (λ legs. legs.items) c.index-rotations-plane.is)) at

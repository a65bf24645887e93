use Rattle.std.proofs.Common.{◌≡◌, map, ap, ◌∙◌, arith}
use Rattle.std.proofs.lemmas.Simd.{map-map}
use Rattle.desk_units.specs.declared.numbers.Plane.{Plane}
use Rattle.desk_data.specs.Situation.{planes_of}
use Rattle.desk_rules.specs.Numbers.{numbers}
use Rattle.near_moves.specs.MoveParts.{family_of}
use Rattle.near_legs.proofs.ListsLaws.{families-are}
use Rattle.near_legs.proofs.families.families.Goals as goal

pub returns : goal.returns
returns c =
    let I = c.args.inst.now in
    let count = c.planes-p-end.ensures.count in
    let end : c.loop-p.p ≡ planes_of I = omega (arith, count) in
    families-are I (map (λ f. f.items) c.loop-p.all.items)
    (map-map (map (λ (p : Plane). p.0)) (λ f. f.items) c.loop-p.all.items ∙ c.loop-p.invariant.done ∙ ap (λ n. map (family_of I) (numbers n)) end)

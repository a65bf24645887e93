use Rattle.std.proofs.Common.{◌≡◌, ◌+◌, ◌<◌, [], length, get_or, map, refl, ap, ◌∙◌, arith}
use Rattle.std.specs.List.{All}
use Rattle.std.proofs.lemmas.Result.{IfOk-weaker}
use Rattle.std.proofs.lemmas.Simd.{map-map}
use Rattle.desk_units.specs.declared.numbers.Plane.{Plane}
use Rattle.near_moves.specs.MoveParts.{family_of}
use Rattle.near_legs.proofs.ListsLaws.{families-long, family-copied, firsts_wider}
use Rattle.near_legs.proofs.families.next_family.Goals as goal

pub copy-requires : goal.copy-requires
copy-requires c =
    let before = c.in-Some.ensures.before c.in-Some.first refl in
    let long : length c.args.before.now ≡ c.args.plane.0 = families-long c.args.inst.now (λ f. map (λ (p : Plane). p.0) f.items) c.args.before.now c.args.plane.0 c.requires.before in
    omega (arith, before, long)

pub returns-in-Some-clause-family : goal.returns-in-Some-clause-family
returns-in-Some-clause-family c =
    let I = c.args.inst.now in
    let first = c.in-Some.first in
    IfOk-weaker c.copy.result (λ family. family.items ≡ get_or (map (λ f. f.items) c.args.before.now) first.0 []) (λ family. map (λ (p : Plane). p.0) family.items ≡ family_of I c.args.plane.0)
    (λ family is. ap (map (λ (p : Plane). p.0)) is
    ∙ family-copied I (map (λ f. f.items) c.args.before.now) first.0 c.args.plane.0
    (map-map (map (λ (p : Plane). p.0)) (λ f. f.items) c.args.before.now ∙ c.requires.before)
    (c.in-Some.ensures.before first refl) (c.in-Some.ensures.family first refl))
    c.copy.ensures

pub returns-in-Some-clause-firsts : goal.returns-in-Some-clause-firsts
returns-in-Some-clause-firsts c =
    IfOk-weaker c.copy.result (λ family. family.items ≡ get_or (map (λ f. f.items) c.args.before.now) c.in-Some.first.0 []) (λ family. All (λ (q : Plane). q.0 < c.args.plane.0 + 1) c.args.firsts.now.items)
    (λ family is. firsts_wider c.args.plane.0 c.args.firsts.now.items c.requires.firsts)
    c.copy.ensures

use Rattle.std.proofs.Common.{◌≡◌, ◌<◌, ◌∙◌, map, length, ap, arith}
use Rattle.std.specs.List.{All}
use Rattle.std.proofs.lemmas.Result.{IfOk-weaker}
use Rattle.std.proofs.lemmas.List.Elements.{All-weaker}
use Rattle.desk_units.specs.declared.numbers.Leg.{Leg}
use Rattle.desk_data.specs.Situation.{legs_of}
use Rattle.desk_model.specs.Push.{rotation}
use Rattle.hour_counts.proofs.SortedLaws.{leg_of, flown-within, rotation-within}
use Rattle.hour_counts.proofs.flown.FlownLegs.rotation.Goals as goal

pub sorted_rotation_legs-requires : goal.sorted_rotation_legs-requires
sorted_rotation_legs-requires g c =
    let I = c.args.inst.now in
    let P = g.P.ReadPlan.plan_of c.args.plan.now in
    let legs = c.legs-2.result.now in
    let are = ap (map (λ (leg : Leg). leg.0)) c.legs-2.ensures ∙ c.requires.flown.each c.args.plane.0 c.requires.plane in
    let count = c.requires.plan.legs in
    All-weaker (λ (leg : Leg). leg.0 < legs_of I) (λ (leg : Leg). leg.0 < length P.rows) (λ leg lt. omega (arith, lt, count)) legs (flown-within I P c.args.plane.0 legs are)

pub returns-clause-within : goal.returns-clause-within
returns-clause-within g c =
    let I = c.args.inst.now in
    let P = g.P.ReadPlan.plan_of c.args.plan.now in
    let p = c.args.plane.0 in
    let are = ap (map (λ (leg : Leg). leg.0)) c.legs-2.ensures ∙ c.requires.flown.each p c.requires.plane in
    let order : map leg_of c.as_slice.result.now ≡ rotation I P p = ap (map leg_of) c.as_slice.ensures.value ∙ c.in_ok-rotation_legs.ensures.order I p are in
    IfOk-weaker c.legs_of.result (λ legs. map (λ (leg : Leg). leg.0) legs.items ≡ map leg_of c.as_slice.result.now) (λ legs. All (λ (leg : Leg). leg.0 < legs_of I) legs.items)
    (λ legs same. rotation-within I P p legs.items (same ∙ order)) c.legs_of.ensures

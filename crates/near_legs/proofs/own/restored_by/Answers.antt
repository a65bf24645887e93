use Rattle.std.proofs.Common.{◌≡◌, Bool, true, cond, [], map, sym, ap, subst, ◌∙◌}
use Rattle.std.specs.List.{All}
use Rattle.std.proofs.lemmas.Result.{IfOk-weaker}
use Rattle.desk_units.specs.declared.numbers.Plane.{Plane}
use Rattle.desk_data.specs.declared.info.LegInfo.{LegInfo}
use Rattle.desk_data.specs.Situation.{leg_at}
use Rattle.near_moves.specs.MoveParts.{family_of, is_restorable}
use Rattle.near_moves.specs.Units.{restored}
use Rattle.near_legs.specs.declared.unit.LegUnit.TheVariants as units
use Rattle.near_legs.specs.Choices.{unit_of, AreInRange}
use Rattle.near_legs.proofs.ListsLaws.{families-within}
use Rattle.near_legs.proofs.OwnLaws.{planes-are, planes-sound}
use Rattle.near_legs.proofs.own.restored_by.Goals as goal

pub returns-clause-units : goal.returns-clause-units
returns-clause-units c =
    let I = c.args.inst.now in
    let leg = c.args.leg in
    let family = c.family.result.now in
    let own : map (λ (q : Plane). q.0) family ≡ family_of I c.leg.result.now.plane.0 = ap (map (λ (q : Plane). q.0)) c.family.ensures ∙ c.requires.families.each c.leg.result.now.plane.0 c.leg.ensures.ranges.plane in
    let are : map (λ (q : Plane). q.0) family ≡ family_of I (leg_at I leg.0).plane.0 = subst (λ (i : LegInfo). map (λ (q : Plane). q.0) family ≡ family_of I i.plane.0) c.leg.ensures.row own in
    let test : is_restorable I c.args.plan.now leg.0 ≡ true = sym c.is_restorable.ensures ∙ c.if-not-is_restorable.false in
    IfOk-weaker c.each_plane.result
    (λ made. made.items ≡ map (λ q. units.Restored leg q) family)
    (λ made. map unit_of made.items ≡ cond (is_restorable I c.args.plan.now leg.0) (map (restored leg.0) (family_of I (leg_at I leg.0).plane.0)) [])
    (λ made is. planes-are I leg (leg_at I leg.0).plane.0 family made.items are is ∙ sym (ap (λ (b : Bool). cond b (map (restored leg.0) (family_of I (leg_at I leg.0).plane.0)) []) test)) c.each_plane.ensures

pub returns-clause-sound : goal.returns-clause-sound
returns-clause-sound c =
    let I = c.args.inst.now in
    let leg = c.args.leg in
    let family = c.family.result.now in
    let own : map (λ (q : Plane). q.0) family ≡ family_of I c.leg.result.now.plane.0 = ap (map (λ (q : Plane). q.0)) c.family.ensures ∙ c.requires.families.each c.leg.result.now.plane.0 c.leg.ensures.ranges.plane in
    IfOk-weaker c.each_plane.result
    (λ made. made.items ≡ map (λ q. units.Restored leg q) family)
    (λ made. All (AreInRange I) made.items)
    (λ made is. planes-sound I leg family made.items c.requires.leg (families-within I c.leg.result.now.plane.0 family own) is) c.each_plane.ensures

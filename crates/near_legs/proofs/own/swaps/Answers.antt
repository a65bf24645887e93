use Rattle.std.proofs.Common.{◌≡◌, Bool, false, cond, ltb, not, [], map, sym, ap, ◌∙◌}
use Rattle.std.specs.Prelude.{filter}
use Rattle.std.specs.List.{All}
use Rattle.std.proofs.lemmas.Result.{IfOk-weaker}
use Rattle.desk_units.specs.declared.numbers.Plane.{Plane}
use Rattle.desk_data.specs.declared.info.PlaneInfo.{PlaneInfo}
use Rattle.desk_data.specs.Situation.{plane_at}
use Rattle.near_moves.specs.MoveParts.{family_of}
use Rattle.near_moves.specs.Units.{swapped}
use Rattle.near_moves.specs.LegMoves.{later_of_family}
use Rattle.near_legs.specs.declared.unit.LegUnit.TheVariants as units
use Rattle.near_legs.specs.Choices.{unit_of, AreInRange}
use Rattle.near_legs.proofs.ListsLaws.{families-within}
use Rattle.near_legs.proofs.OwnLaws.{pairs-are, pairs-sound}
use Rattle.near_legs.proofs.own.swaps.Goals as goal

pub returns-clause-units : goal.returns-clause-units
returns-clause-units c =
    let I = c.args.inst.now in
    let p = c.args.plane in
    let family = c.family.result.now in
    let are : map (λ (q : Plane). q.0) family ≡ family_of I p.0 = ap (map (λ (q : Plane). q.0)) c.family.ensures ∙ c.requires.families.each p.0 c.requires.plane in
    let air : (plane_at I p.0).surface ≡ false = ap (λ (i : PlaneInfo). i.surface) (sym c.plane.ensures.row) ∙ c.if-plane.false in
    IfOk-weaker c.later_pairs.result
    (λ made. made.items ≡ map (λ q. units.Swapped p q) (filter (λ (q : Plane). ltb p.0 q.0) family))
    (λ made. map unit_of made.items ≡ cond (not (plane_at I p.0).surface) (map (swapped p.0) (later_of_family I p.0)) [])
    (λ made is. pairs-are I p family made.items are is ∙ sym (ap (λ (b : Bool). cond (not b) (map (swapped p.0) (later_of_family I p.0)) []) air)) c.later_pairs.ensures

pub returns-clause-sound : goal.returns-clause-sound
returns-clause-sound c =
    let I = c.args.inst.now in
    let p = c.args.plane in
    let family = c.family.result.now in
    let are : map (λ (q : Plane). q.0) family ≡ family_of I p.0 = ap (map (λ (q : Plane). q.0)) c.family.ensures ∙ c.requires.families.each p.0 c.requires.plane in
    IfOk-weaker c.later_pairs.result
    (λ made. made.items ≡ map (λ q. units.Swapped p q) (filter (λ (q : Plane). ltb p.0 q.0) family))
    (λ made. All (AreInRange I) made.items)
    (λ made is. pairs-sound I p family made.items c.requires.plane (families-within I p.0 family are) is) c.later_pairs.ensures

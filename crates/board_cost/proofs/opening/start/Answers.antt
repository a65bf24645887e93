use Rattle.std.proofs.Common.{◌≡◌, ◌<◌, true, length, set, refl, ap, sym, subst, ◌∙◌}
use Rattle.std.specs.Prelude.{Option}
use Rattle.std.proofs.lemmas.List.{get_or_default, length-set}
use Rattle.board_cost.specs.declared.rotation_leg.Placed.{Placed}
use Rattle.board_cost.specs.RotationLegs.{RotationRow, no_rotation, rotation_at, IsSetOne, IsPlacedSet}
use Rattle.board_cost.proofs.FleetLaws.{rotations_set, same_rotations}
use Rattle.board_cost.proofs.RoomLaws.{on_ok, place_some, set_edits}
use Rattle.board_cost.proofs.opening.start.Goals as goal

pub start-requires : goal.start-requires
start-requires c =
    let items = c.args.rotations.now.items in
    let p = c.in-Some.placed.plane.0 in
    let within : p < length items = place_some (length items) c.args.placed c.in-Some.placed c.in-Some.is c.requires.place in
    let here : c.index_mut.result.now ≡ rotation_at items p = c.index_mut.ensures.value ∙ sym (get_or_default items p no_rotation c.index_mut.result.now within) in
    ap (λ (r : RotationRow). r.edits) here ∙ c.requires.edits p within

pub returns-in-Some-clause-rotations : goal.returns-in-Some-clause-rotations
returns-in-Some-clause-rotations c =
    let items = c.args.rotations.now.items in
    let placed = c.in-Some.placed in
    let p = placed.plane.0 in
    let within : p < length items = place_some (length items) c.args.placed placed c.in-Some.is c.requires.place in
    let here : c.index_mut.result.now ≡ rotation_at items p = c.index_mut.ensures.value ∙ sym (get_or_default items p no_rotation c.index_mut.result.now within) in
    on_ok c.start.result c.start.ensures.set (λ one I P Q are change.
    rotations_set I P Q placed items (set items p c.start.new.self) c.start.new.self within refl
    (subst (λ (r : RotationRow). IsSetOne placed.rotation_leg true r c.start.new.self) here one) are
    (subst (λ (o : Option Placed). IsPlacedSet I P Q o true) c.in-Some.is change))

pub returns-in-Some-clause-edits : goal.returns-in-Some-clause-edits
returns-in-Some-clause-edits c =
    let items = c.args.rotations.now.items in
    let p = c.in-Some.placed.plane.0 in
    let within : p < length items = place_some (length items) c.args.placed c.in-Some.placed c.in-Some.is c.requires.place in
    on_ok c.start.result c.start.ensures.edits (λ none. set_edits items p c.start.new.self within none c.requires.edits)

pub returns-in-Some-clause-planes : goal.returns-in-Some-clause-planes
returns-in-Some-clause-planes c = on_ok c.start.result c.start.ensures.edits (λ none. length-set c.args.rotations.now.items c.in-Some.placed.plane.0 c.start.new.self)

pub returns-in-None-clause-rotations : goal.returns-in-None-clause-rotations
returns-in-None-clause-rotations c I P Q are change = same_rotations I P Q c.args.rotations.now.items (subst (λ (o : Option Placed). IsPlacedSet I P Q o true) c.in-None.is change) are

use Rattle.std.proofs.Common.{◌≡◌, ◌<◌, length, set, ap, sym, subst, ◌∙◌, arith}
use Rattle.std.proofs.lemmas.List.{get_or_default}
use Rattle.board_cost.specs.declared.rotation.EndChange.{EndChange}
use Rattle.board_cost.specs.RotationLegs.{RotationRow, no_rotation, rotation_at, IsExchanged, end_of}
use Rattle.board_cost.specs.Positions.{Moves}
use Rattle.board_cost.specs.Board.{FleetRows, IsFleetOf, IsPut}
use Rattle.board_cost.proofs.FleetLaws.{exchanged_fleet, put_one}
use Rattle.board_cost.proofs.fleet.Fleet.exchange.Goals as goal

pub exchange-moved-requires : goal.exchange-moved-requires
exchange-moved-requires c =
    let items = c.self.inside.rotations.items in
    let p = c.args.exchange.plane.0 in
    let within : p < length items = omega (arith, c.requires.place, ap (λ (f : FleetRows). length f.rotations) c.self.view_is) in
    let here : c.index_mut.result.now ≡ rotation_at items p = c.index_mut.ensures.value ∙ sym (get_or_default items p no_rotation c.index_mut.result.now within) in
    let same : c.index_mut.result.now ≡ rotation_at c.args.self.now.rotations p = here ∙ ap (λ (f : FleetRows). rotation_at f.rotations p) c.self.view_is in
    omega (arith, ap (λ (r : RotationRow). length r.rotation_legs) same, ap (λ (r : RotationRow). r.room) same, c.requires.room)

pub returns-clause-fleet : goal.returns-clause-fleet
returns-clause-fleet c I P R Q is left joined =
    let s = c.self.inside in
    let items = s.rotations.items in
    let e = c.args.exchange in
    let p = e.plane.0 in
    let new = c.exchange-moved.new.self in
    let within : p < length items = omega (arith, c.requires.place, ap (λ (f : FleetRows). length f.rotations) c.self.view_is) in
    let here : c.index_mut.result.now ≡ rotation_at items p = c.index_mut.ensures.value ∙ sym (get_or_default items p no_rotation c.index_mut.result.now within) in
    let old : FleetRows = record { rotations = items; positions = s.positions } in
    let moves = subst (λ (m : EndChange). Moves s.positions.rows c.move_plane.new.self.rows m.kind m.from m.to) c.exchange-moved.ensures.moved c.move_plane.ensures in
    exchanged_fleet I P R Q e.plane e.gone e.come old new c.move_plane.new.self within
    (subst (λ (r : RotationRow). IsExchanged e.gone e.come r new) here c.exchange-moved.ensures.set)
    (subst (λ (r : RotationRow). Moves s.positions.rows c.move_plane.new.self.rows r.kind (end_of r) (end_of new)) here moves)
    (subst (IsFleetOf I P) (sym c.self.view_is) is) left joined

pub returns-clause-rotations : goal.returns-clause-rotations
returns-clause-rotations c =
    let items = c.self.inside.rotations.items in
    let p = c.args.exchange.plane.0 in
    let new = c.exchange-moved.new.self in
    let within : p < length items = omega (arith, c.requires.place, ap (λ (f : FleetRows). length f.rotations) c.self.view_is) in
    let here : c.index_mut.result.now ≡ rotation_at items p = c.index_mut.ensures.value ∙ sym (get_or_default items p no_rotation c.index_mut.result.now within) in
    subst (λ (f : FleetRows). IsPut p c.args.edits f.rotations (set items p new)) c.self.view_is
    (put_one p c.args.edits items new within c.exchange-moved.ensures.edits
    (omega (arith, c.exchange-moved.ensures.length, ap (λ (r : RotationRow). length r.rotation_legs) here))
    (omega (arith, c.exchange-moved.ensures.room, ap (λ (r : RotationRow). r.room) here)))

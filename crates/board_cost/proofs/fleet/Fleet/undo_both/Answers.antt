use Rattle.std.proofs.Common.{◌≡◌, ◌+◌, ◌-◌, length, refl, sym, subst, arith}
use Rattle.std.specs.Prelude.{Option, Some}
use Rattle.board_cost.specs.declared.rotation_leg.Placed.{Placed}
use Rattle.board_cost.specs.RotationLegs.{rotation_at}
use Rattle.board_cost.specs.Board.{AreMoved, HasEdits, edits_in}
use Rattle.board_cost.proofs.FleetLaws.{leg_on}
use Rattle.board_cost.proofs.RoomLaws.{place_some, both_edits, undo_both}
use Rattle.board_cost.proofs.fleet.Fleet.undo_both.Goals as goal

pub edits-edits-requires : goal.edits-edits-requires
edits-edits-requires c = place_some (length c.args.self.now.rotations) c.args.legs.gone (leg_on c.in-Some.exchange.plane c.in-Some.exchange.gone) c.in-Some.ensures.from c.requires.gone_place

pub overflow_sub-edits : goal.overflow_sub-edits
overflow_sub-edits c = omega (arith, c.edits-edits.ensures.edits, both_edits c.args.self.now.rotations c.args.legs.gone c.args.legs.come c.in-Some.exchange c.in-Some.ensures c.requires.edits c.requires.gone_place)

pub exchange-requires : goal.exchange-requires
exchange-requires c = record {
  place = place_some (length c.args.self.now.rotations) c.args.legs.gone (leg_on c.in-Some.exchange.plane c.in-Some.exchange.gone) c.in-Some.ensures.from c.requires.gone_place;
  room = omega (arith, c.edits-edits.ensures.edits, c.edits-edits.ensures.room, both_edits c.args.self.now.rotations c.args.legs.gone c.args.legs.come c.in-Some.exchange c.in-Some.ensures c.requires.edits c.requires.gone_place);
}

pub returns-in-Some-clause-fleet : goal.returns-in-Some-clause-fleet
returns-in-Some-clause-fleet c =
    let e = c.in-Some.exchange in
    subst (λ (g : Option Placed). AreMoved c.args.self.now c.exchange.new.self g c.args.legs.come) (sym c.in-Some.ensures.from)
    (subst (λ (g : Option Placed). AreMoved c.args.self.now c.exchange.new.self (Some (leg_on e.plane e.gone)) g) (sym c.in-Some.ensures.to) c.exchange.ensures.fleet)

pub returns-in-Some-clause-edits : goal.returns-in-Some-clause-edits
returns-in-Some-clause-edits c n has =
    let e = c.in-Some.exchange in
    let old = c.args.self.now.rotations in
    let new = c.exchange.new.self.rotations in
    let place = place_some (length old) c.args.legs.gone (leg_on e.plane e.gone) c.in-Some.ensures.from c.requires.gone_place in
    let less : c.edits-edits.result - 2 + 2 ≡ (rotation_at old e.plane.0).edits = omega (arith, c.edits-edits.ensures.edits, both_edits c.args.self.now.rotations c.args.legs.gone c.args.legs.come c.in-Some.exchange c.in-Some.ensures c.requires.edits c.requires.gone_place) in
    undo_both n (leg_on e.plane e.gone) (leg_on e.plane e.come) (c.edits-edits.result - 2) old new refl place less c.exchange.ensures.rotations
    (subst (λ (g : Option Placed). HasEdits (λ q. n q + edits_in q g + edits_in q (Some (leg_on e.plane e.gone))) old) c.in-Some.ensures.to
    (subst (λ (g : Option Placed). HasEdits (λ q. n q + edits_in q c.args.legs.come + edits_in q g) old) c.in-Some.ensures.from has))

pub returns-in-Some-clause-planes : goal.returns-in-Some-clause-planes
returns-in-Some-clause-planes c = c.exchange.ensures.rotations.planes

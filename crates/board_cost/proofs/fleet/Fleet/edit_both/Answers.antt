use Rattle.std.proofs.Common.{◌≡◌, ◌+◌, length, refl, sym, subst, arith}
use Rattle.std.specs.Prelude.{Option, Some}
use Rattle.board_cost.specs.declared.rotation_leg.Placed.{Placed}
use Rattle.board_cost.specs.RotationLegs.{rotation_at}
use Rattle.board_cost.specs.Board.{AreMoved, HasEdits, HasRoomFor, edits_in}
use Rattle.board_cost.proofs.FleetLaws.{leg_on}
use Rattle.board_cost.proofs.RoomLaws.{place_some, put_both}
use Rattle.board_cost.proofs.fleet.Fleet.edit_both.Goals as goal

pub edits-edits-requires : goal.edits-edits-requires
edits-edits-requires c = place_some (length c.args.self.now.rotations) c.args.legs.gone (leg_on c.in-Some.exchange.plane c.in-Some.exchange.gone) c.in-Some.ensures.from c.requires.gone_place

pub overflow_add-edits : goal.overflow_add-edits
overflow_add-edits c =
    omega (arith, c.edits-edits.ensures.edits, c.requires.few c.in-Some.exchange.plane.0 (place_some (length c.args.self.now.rotations) c.args.legs.gone (leg_on c.in-Some.exchange.plane c.in-Some.exchange.gone) c.in-Some.ensures.from c.requires.gone_place))

pub exchange-requires : goal.exchange-requires
exchange-requires c =
    let room = subst (HasRoomFor 4 c.args.self.now.rotations) c.in-Some.ensures.from c.requires.gone_room in
    record {
      place = place_some (length c.args.self.now.rotations) c.args.legs.gone (leg_on c.in-Some.exchange.plane c.in-Some.exchange.gone) c.in-Some.ensures.from c.requires.gone_place;
      room = omega (arith, room, c.edits-edits.ensures.edits);
    }

pub returns-in-Some-clause-fleet : goal.returns-in-Some-clause-fleet
returns-in-Some-clause-fleet c =
    let e = c.in-Some.exchange in
    subst (λ (g : Option Placed). AreMoved c.args.self.now c.exchange.new.self g c.args.legs.come) (sym c.in-Some.ensures.from)
    (subst (λ (g : Option Placed). AreMoved c.args.self.now c.exchange.new.self (Some (leg_on e.plane e.gone)) g) (sym c.in-Some.ensures.to) c.exchange.ensures.fleet)

pub returns-in-Some-clause-edits : goal.returns-in-Some-clause-edits
returns-in-Some-clause-edits c n has =
    let e = c.in-Some.exchange in
    let old = c.args.self.now.rotations in
    let new = c.exchange.new.self.rotations in
    let place = place_some (length old) c.args.legs.gone (leg_on e.plane e.gone) c.in-Some.ensures.from c.requires.gone_place in
    let more : c.edits-edits.result + 2 ≡ (rotation_at old e.plane.0).edits + 2 = omega (arith, c.edits-edits.ensures.edits) in
    subst (λ (g : Option Placed). HasEdits (λ q. n q + edits_in q g + edits_in q c.args.legs.come) new) (sym c.in-Some.ensures.from)
    (subst (λ (g : Option Placed). HasEdits (λ q. n q + edits_in q (Some (leg_on e.plane e.gone)) + edits_in q g) new) (sym c.in-Some.ensures.to)
    (put_both n (leg_on e.plane e.gone) (leg_on e.plane e.come) (c.edits-edits.result + 2) old new refl place more c.exchange.ensures.rotations has))

pub returns-in-Some-clause-planes : goal.returns-in-Some-clause-planes
returns-in-Some-clause-planes c = c.exchange.ensures.rotations.planes

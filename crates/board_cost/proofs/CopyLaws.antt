-- Copies of the aircraft, of which no edit can be taken back.
use Rattle.std.proofs.Common.{◌≡◌, ℕ, ◌<◌, List, length, sym, ap, subst, ◌∙◌, arith}
use Rattle.std.specs.Prelude.{map}
use Rattle.std.proofs.lemmas.List.{length-map, get_or-map}
use Rattle.desk_data.specs.Situation.{Situation}
use Rattle.desk_data.specs.PlanRows.{PlanRows}
use Rattle.desk_rules.specs.Cost.{at_hand}
use Rattle.board_cost.specs.declared.rotation_leg.ArrivingLeg.{ArrivingLeg}
use Rattle.board_cost.specs.RotationLegs.{RotationRow, no_rotation, rotation_at, AreArrivingLegsOf, AreInOrder, IsRotationOf, without_edits_and_room, without_room}
use Rattle.board_cost.specs.Positions.{PositionRows, AreRowsOf}
use Rattle.board_cost.specs.Board.{FleetRows, IsFleetOf, HasEdits}

abbrev pub AreCopied : List RotationRow → List RotationRow → Type 0
AreCopied old new = map without_room new ≡ map without_edits_and_room old

pub copied_planes : (old new : List RotationRow) → AreCopied old new → length new ≡ length old
copied_planes old new same = sym (length-map new without_room) ∙ ap (λ (rows : List RotationRow). length rows) same ∙ length-map old without_edits_and_room

copied_at : (old new : List RotationRow) (p : ℕ) → AreCopied old new → p < length old → without_room (rotation_at new p) ≡ without_edits_and_room (rotation_at old p)
copied_at old new p same lt =
    sym (get_or-map without_room new p no_rotation no_rotation (omega (arith, lt, copied_planes old new same)))
    ∙ ap (λ (rows : List RotationRow). rotation_at rows p) same
    ∙ get_or-map without_edits_and_room old p no_rotation no_rotation lt

pub copied_edits : (old new : List RotationRow) → AreCopied old new → HasEdits (λ p. 0) new
copied_edits old new same p lt = ap (λ (r : RotationRow). r.edits) (copied_at old new p same (omega (arith, lt, copied_planes old new same)))

rotation_copied : (I : Situation) (P : PlanRows) (p : ℕ) (old new : RotationRow) → without_room new ≡ without_edits_and_room old → IsRotationOf I P p old → IsRotationOf I P p new
rotation_copied I P p old new same is =
    let legs : new.rotation_legs ≡ old.rotation_legs = ap (λ (r : RotationRow). r.rotation_legs) same in
    record {
      surface = ap (λ (r : RotationRow). r.surface) same ∙ is.surface;
      origin = ap (λ (r : RotationRow). r.origin) same ∙ is.origin;
      model = ap (λ (r : RotationRow). r.kind.model) same ∙ is.model;
      seats = ap (λ (r : RotationRow). r.kind.seats) same ∙ is.seats;
      rotation_legs = subst (λ (ts : List ArrivingLeg). AreArrivingLegsOf I P p ts) (sym legs) is.rotation_legs;
      rising = subst (λ (ts : List ArrivingLeg). AreInOrder ts) (sym legs) is.rising;
    }

pub fleet_copied : (I : Situation) (P : PlanRows) (old new : FleetRows) → AreCopied old.rotations new.rotations → new.positions ≡ old.positions → IsFleetOf I P old → IsFleetOf I P new
fleet_copied I P old new same alike is = record {
  planes = copied_planes old.rotations new.rotations same ∙ is.planes;
  few = is.few;
  each = λ p lt. rotation_copied I P p (rotation_at old.rotations p) (rotation_at new.rotations p) (copied_at old.rotations new.rotations p same (omega (arith, lt, is.planes))) (is.each p lt);
  positions = subst (λ (rows : PositionRows). AreRowsOf I (at_hand I P) rows.rows) (sym alike) is.positions;
}

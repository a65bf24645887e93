use Rattle.std.proofs.Common.{length, sym, ap, subst, ◌∙◌}
use Rattle.std.specs.Prelude.{map}
use Rattle.board_cost.specs.RotationLegs.{without_edits_and_room}
use Rattle.board_cost.specs.Board.{FleetRows, IsFleetOf}
use Rattle.board_cost.proofs.CopyLaws.{AreCopied, copied_edits, copied_planes, fleet_copied}
use Rattle.board_cost.proofs.fleet.Fleet.copy.Goals as goal

pub returns-clause-fleet : goal.returns-clause-fleet
returns-clause-fleet c I P is =
    let s = c.self.inside in
    let old : FleetRows = record { rotations = s.rotations.items; positions = s.positions } in
    let new : FleetRows = record { rotations = c.in_ok-rotations.rotations.items; positions = c.in_ok-positions.positions } in
    let same : AreCopied old.rotations new.rotations = c.in_ok-rotations.ensures ∙ ap (map without_edits_and_room) c.as_slice.ensures.value in
    fleet_copied I P old new same c.in_ok-positions.ensures (subst (IsFleetOf I P) (sym c.self.view_is) is)

pub returns-clause-edits : goal.returns-clause-edits
returns-clause-edits c =
    let s = c.self.inside in
    let same : AreCopied s.rotations.items c.in_ok-rotations.rotations.items = c.in_ok-rotations.ensures ∙ ap (map without_edits_and_room) c.as_slice.ensures.value in
    copied_edits s.rotations.items c.in_ok-rotations.rotations.items same

pub returns-clause-planes : goal.returns-clause-planes
returns-clause-planes c =
    let s = c.self.inside in
    let same : AreCopied s.rotations.items c.in_ok-rotations.rotations.items = c.in_ok-rotations.ensures ∙ ap (map without_edits_and_room) c.as_slice.ensures.value in
    copied_planes s.rotations.items c.in_ok-rotations.rotations.items same ∙ ap (λ (f : FleetRows). length f.rotations) c.self.view_is

use Rattle.std.proofs.Common.{◌+◌, length, sym}
use Rattle.board_cost.specs.Board.{edits_in}
use Rattle.board_cost.proofs.RoomLaws.{place_kept}
use Rattle.board_cost.proofs.LogLaws.{has_edit}
use Rattle.board_cost.proofs.fleet.Fleet.undo_apart.Goals as goal

pub undo-requires : goal.undo-requires
undo-requires c =
    let n = c.requires.edits.others in
    record { place = c.requires.gone_place; some = has_edit (λ p. n p + edits_in p c.args.legs.come) c.args.self.now.rotations c.args.legs.gone c.requires.edits.edits c.requires.gone_place }

pub undo-requires-2 : goal.undo-requires-2
undo-requires-2 c =
    let n = c.requires.edits.others in
    let place = place_kept (length c.args.self.now.rotations) (length c.undo.new.self.rotations) c.args.legs.come (sym c.undo.ensures.planes) c.requires.come_place in
    record { place = place; some = has_edit n c.undo.new.self.rotations c.args.legs.come (c.undo.ensures.edits (λ p. n p + edits_in p c.args.legs.come) c.requires.edits.edits) place }

pub returns-clause-fleet : goal.returns-clause-fleet
returns-clause-fleet c I P R Q is left joined = c.undo-2.ensures.fleet I R Q (c.undo.ensures.fleet I P R is left) joined

pub returns-clause-edits : goal.returns-clause-edits
returns-clause-edits c n has = c.undo-2.ensures.edits n (c.undo.ensures.edits (λ p. n p + edits_in p c.args.legs.come) has)

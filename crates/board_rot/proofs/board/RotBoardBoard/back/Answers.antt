use Rattle.std.proofs.Common.{◌≡◌, ◌∙◌, ap, sym, subst, length, List, ℕ, ◌++◌, [], ◌∷◌}
use Rattle.std.proofs.lemmas.List.{length-take-le}
use Rattle.board_rot.specs.Summaries.{Edited}
use Rattle.board_rot.specs.Boards.{AreSavepoints}
use Rattle.board_rot.proofs.BoardLaws.{board_less, savepoint_within, savepoints_less}
use Rattle.board_rot.proofs.board.RotBoardBoard.back.Goals as goal

pub undo_to-requires : goal.undo_to-requires
undo_to-requires c =
    let edits = length c.self.inside.log.edits in
    savepoint_within c.pop.new.self.items c.in-Some.before edits (subst (λ (savepoints : List ℕ). AreSavepoints savepoints edits) c.in-Some.ensures.items c.self.invariant)

pub invariant_of-self : goal.invariant_of-self
invariant_of-self c =
    let edits = c.self.inside.log.edits in
    let savepoint = c.in-Some.before in
    let left = c.pop.new.self.items in
    let savepoints : AreSavepoints (left ++ savepoint ∷ []) (length edits) = subst (λ (savepoints : List ℕ). AreSavepoints savepoints (length edits)) c.in-Some.ensures.items c.self.invariant in
    let len : length c.undo_to.new.self.edits ≡ savepoint = ap (λ (e : Edited). length e.edits) c.undo_to.ensures ∙ length-take-le savepoint edits (savepoint_within left savepoint (length edits) savepoints) in
    subst (AreSavepoints left) (sym len) (savepoints_less left savepoint (length edits) savepoints)

pub returns-in-Some : goal.returns-in-Some
returns-in-Some c I P Q Qs is =
    board_less I P Q Qs c.self.inside.log c.undo_to.new.self c.pop.new.self.items c.self.inside.savepoints.items c.in-Some.before c.args.self.now c.self.view_is c.self.invariant c.in-Some.ensures.items c.undo_to.ensures is

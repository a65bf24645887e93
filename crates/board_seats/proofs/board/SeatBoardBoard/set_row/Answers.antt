use Rattle.std.proofs.Common.{◌≡◌, ℕ, ◌++◌, [], ◌∷◌, List, length, reverse, sym, ap, subst, ◌∙◌, arith, length-append}
use Rattle.desk_data.specs.PlanRows.{with_row}
use Rattle.board_seats.specs.Summaries.{back_to}
use Rattle.board_seats.specs.Kept.{seen}
use Rattle.board_seats.specs.Board.{Board, IsBoardOf, Stands}
use Rattle.board_seats.proofs.EditLaws.{led_longer}
use Rattle.board_seats.proofs.BoardLaws.{set_board, seen_board, past_length}
use Rattle.std.proofs.lemmas.List.{length-reverse}
use Rattle.board_seats.proofs.UserLaws.{popped}
use Rattle.board_seats.proofs.board.SeatBoardBoard.set_row.Goals as goal

pub with_row-requires-clause-stands : goal.with_row-requires-clause-stands
with_row-requires-clause-stands g c = subst (λ (b : Board). Stands c.args.inst.now c.args.plan.now (seen b.lists)) (sym c.self.view_is) c.requires.ready.board.stands

pub returns-in-Ok-clause-ok : goal.returns-in-Ok-clause-ok
returns-in-Ok-clause-ok g c Ps is =
    let I = c.args.inst.now in
    let P = c.args.plan.now in
    let savepoints = c.self.inside.savepoints.items in
    set_board I P (with_row P c.args.leg.0 c.args.row) Ps c.self.inside.log c.with_row.new.log savepoints c.push.new.self.items
    (c.in_ok-push.ensures.items ∙ ap (λ (n : ℕ). savepoints ++ n ∷ []) c.edits-edits.ensures)
    c.with_row.ensures.led c.in-Ok.ensures.ok (subst (IsBoardOf I P Ps) (sym c.self.view_is) is)

pub undo_to-requires : goal.undo_to-requires
undo_to-requires g c =
    omega (arith, c.edits-edits.ensures, led_longer (seen c.self.inside.log) (seen c.with_row.new.log) c.with_row.ensures.led)

pub returns-in-Err-clause-err : goal.returns-in-Err-clause-err
returns-in-Err-clause-err g c Ps is =
    let I = c.args.inst.now in
    let P = c.args.plan.now in
    let before = c.self.inside.savepoints.items in
    let some = c.pop.ensures.variant.1 (omega (arith, c.push.new.self.ok.0, ap (λ (ns : List ℕ). length ns) c.in_ok-push.ensures.items, length-append before (c.edits-edits.result ∷ []))) in
    let savepoints : c.pop.new.self.items ≡ before = popped before c.pop.new.self.items c.push.new.self.items c.edits-edits.result c.pop.result c.in_ok-push.ensures.items c.pop.ensures.items some in
    let same : seen c.undo_to.new.self ≡ seen c.self.inside.log = c.undo_to.ensures ∙ ap (λ (n : ℕ). back_to n (seen c.with_row.new.log)) c.edits-edits.ensures ∙ c.with_row.ensures.led in
    subst (λ (ns : List ℕ). IsBoardOf I P Ps (record { lists = c.undo_to.new.self; savepoints = reverse ns })) (sym savepoints)
    (seen_board I P Ps c.self.inside.log c.undo_to.new.self (reverse c.self.inside.savepoints.items) same (subst (IsBoardOf I P Ps) (sym c.self.view_is) is))

-- the past has fewer changes than the most that are kept
pub invariant_of-self-in-Ok : goal.invariant_of-self-in-Ok
invariant_of-self-in-Ok g c =
    let board = c.args.self.now in
    let savepoints = c.self.inside.savepoints.items in
    let plans = past_length c.args.inst.now c.requires.ready.plans (seen board.lists) board.savepoints c.requires.ready.board.savepoints in
    let view : length (reverse savepoints) ≡ length board.savepoints = ap (λ (b : Board). length b.savepoints) c.self.view_is in
    omega (arith, c.requires.ready.few, plans, view, length-reverse savepoints, ap (λ (ns : List ℕ). length ns) c.in_ok-push.ensures.items, length-append savepoints (c.edits-edits.result ∷ []))

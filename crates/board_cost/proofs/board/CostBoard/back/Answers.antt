use Rattle.std.proofs.Common.{◌≡◌, ℕ, List, [], ◌∷◌, reverse, ap, sym, subst, ◌∙◌}
use Rattle.std.specs.Prelude.{sum_by}
use Rattle.board_cost.specs.declared.change.CostChange.{CostChange}
use Rattle.board_cost.specs.Board.{Board, IsBoardOf, edits_of}
use Rattle.board_cost.proofs.LogLaws.{last_of, log_pop}
use Rattle.board_cost.proofs.BoardLaws.{back_board}
use Rattle.std.proofs.lemmas.List.{reverse-append}
use Rattle.board_cost.proofs.board.CostBoard.back.Goals as goal

pub undo_both-requires : goal.undo_both-requires
undo_both-requires c =
    let at = last_of c.self.inside.fleet.rotations c.pop.new.self.items c.self.inside.past.items c.in-Some.change c.in-Some.ensures.items c.self.invariant in
    record { gone_place = at.come; come_place = at.gone; edits = record { others = λ p. sum_by (edits_of p) c.pop.new.self.items; edits = at.edits } }

pub invariant_of-self : goal.invariant_of-self
invariant_of-self c =
    let s = c.self.inside in
    let at = last_of s.fleet.rotations c.pop.new.self.items s.past.items c.in-Some.change c.in-Some.ensures.items c.self.invariant in
    let n : ℕ → ℕ = λ p. sum_by (edits_of p) c.pop.new.self.items in
    log_pop s.fleet.rotations c.undo_both.new.self.rotations c.pop.new.self.items s.past.items c.in-Some.change c.undo_both.ensures.planes c.in-Some.ensures.items
    (c.undo_both.ensures.edits n at.edits) c.self.invariant

pub returns-in-Some : goal.returns-in-Some
returns-in-Some c I P Q Qs is =
    let s = c.self.inside in
    let past : reverse s.past.items ≡ c.in-Some.change ∷ reverse c.pop.new.self.items
    = ap reverse c.in-Some.ensures.items ∙ reverse-append c.pop.new.self.items (c.in-Some.change ∷ []) in
    let board = λ (changes : List CostChange). let b : Board = record { total = s.total; fleet = s.fleet; past = changes } in b in
    back_board I P Q Qs s.total s.fleet c.undo_both.new.self (reverse c.pop.new.self.items) c.in-Some.change
    c.undo_both.ensures.fleet
    (subst (IsBoardOf I P (Q ∷ Qs)) (sym c.self.view_is ∙ ap board past) is)

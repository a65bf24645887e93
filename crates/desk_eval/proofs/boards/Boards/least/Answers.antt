use Rattle.std.proofs.Common.{◌≡◌, ◌∙◌, None, Some, refl, sym, subst}
use Rattle.desk_rules.specs.Least.{least_rot, least_slots}
use Rattle.desk_rules.proofs.LeastLaws.{least-split}
use Rattle.board_rot.specs.Boards.{IsBoardOf as IsRotBoardOf}
use Rattle.board_kit.specs.Board.{IsBoardOf as IsSlotBoardOf}
use Rattle.board_seats.specs.Board.{IsBoardOf as IsSeatBoardOf}
use Rattle.desk_eval.proofs.boards.Boards.least.Goals as goal

pub returns-in-Some : goal.returns-in-Some
returns-in-Some c I P Ps is =
    let rot : Some c.in-Some.item ≡ least_rot I P = sym c.in-Some.is ∙ c.least.ensures I P Ps (subst (IsRotBoardOf I P Ps) (sym c.rotations.ensures) is.first.first) in
    rw (least-split, ← rot) refl

pub returns-in-Some-least : goal.returns-in-Some-least
returns-in-Some-least c I P Ps is =
    let none : least_rot I P ≡ None = sym (c.least.ensures I P Ps (subst (IsRotBoardOf I P Ps) (sym c.rotations.ensures) is.first.first)) ∙ c.in-None.is in
    let slots : Some c.in-Some-least.slot ≡ least_slots I P = sym c.in-Some-least.is ∙ c.least-in-None.ensures I P Ps (subst (IsSlotBoardOf I P Ps) (sym c.slots.ensures) is.first.second) in
    rw (least-split, none, ← slots) refl

pub returns-in-None-least : goal.returns-in-None-least
returns-in-None-least c I P Ps is =
    let none : least_rot I P ≡ None = sym (c.least.ensures I P Ps (subst (IsRotBoardOf I P Ps) (sym c.rotations.ensures) is.first.first)) ∙ c.in-None.is in
    let free : least_slots I P ≡ None = sym (c.least-in-None.ensures I P Ps (subst (IsSlotBoardOf I P Ps) (sym c.slots.ensures) is.first.second)) ∙ c.in-None-least.is in
    rw (least-split, none, free) (c.least-in-None-least.ensures I P Ps (subst (IsSeatBoardOf I P Ps) (sym c.seats.ensures) is.second.first))

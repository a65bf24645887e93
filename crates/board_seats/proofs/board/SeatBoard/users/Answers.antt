use Rattle.std.proofs.Common.{List, length, ap, sym, subst, ◌∙◌}
use Rattle.desk_units.specs.declared.numbers.Res.{Res}
use Rattle.board_kit.specs.Users.{HasUsers, has_user}
use Rattle.board_seats.specs.Board.{Board}
use Rattle.board_seats.proofs.board.SeatBoard.users.Goals as goal

pub returns-clause-legs : goal.returns-clause-legs
returns-clause-legs c I P is = c.leg_users.ensures.legs ∙ ap (λ (b : Board). length b.lists.taken) c.self.view_is ∙ is.legs

pub returns-clause-users : goal.returns-clause-users
returns-clause-users c I P is =
    subst (λ (kept : List (List Res)). HasUsers P (has_user kept)) (sym (c.leg_users.ensures.users ∙ ap (λ (b : Board). b.lists.users) c.self.view_is)) is.summary.users

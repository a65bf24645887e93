use Rattle.std.proofs.Common.{ℕ, ◌<◌, length, set, sym, ap, subst}
use Rattle.std.specs.Prelude.{All}
use Rattle.crew_duty.specs.Users.{AreUsers, users_at}
use Rattle.crew_duty.specs.Board.{Board}
use Rattle.crew_duty.proofs.JudgedLaws.{users_below}
use Rattle.crew_duty.proofs.BoardLaws.{board_moved, board_back, judged_so}
use Rattle.crew_duty.proofs.board.CrewBoard.set_row.Goals as goal

pub judge_crews-requires-clause-numbers : goal.judge_crews-requires-clause-numbers
judge_crews-requires-clause-numbers c =
    subst (All (λ (k : ℕ). k < length c.args.crews.now)) (sym c.of-users.ensures)
    (users_below c.args.crews.now c.self.inside.users c.args.leg.0 (subst (AreUsers c.args.crews.now) (sym (ap (λ (b : Board). b.users) c.self.view_is)) c.requires.board.users))

pub returns-in-Ok-clause-ok : goal.returns-in-Ok-clause-ok
returns-in-Ok-clause-ok c =
    let rows = c.self.inside.rows.items in
    let old = c.self.inside.broken.items in
    let new = c.judge_crews.new.broken.items in
    let x = c.args.leg.0 in
    board_moved c.args.inst.now.parts c.args.crews.now c.args.self.now rows c.self.inside.users old new x c.args.row c.self.view_is c.requires.board c.requires.row
    (judged_so c.args.inst.now.parts c.args.crews.now c.as_slice-rows.result.now (set rows x c.args.row) c.of-users.result.now (users_at c.self.inside.users x) old new c.as_slice-rows.ensures.value c.of-users.ensures c.in-Ok.ensures.ok)

pub returns-in-Err-clause-err : goal.returns-in-Err-clause-err
returns-in-Err-clause-err c =
    board_back c.args.self.now c.self.inside.rows.items c.self.inside.users c.self.inside.broken.items c.judge_crews.new.broken.items c.args.leg.0 c.args.row c.index-had.result.now c.self.view_is c.index-had.ensures c.in-Err.ensures.err

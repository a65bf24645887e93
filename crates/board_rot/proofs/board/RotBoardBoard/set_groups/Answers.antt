use Rattle.std.proofs.Common.{◌∙◌, sym, ap}
use Rattle.desk_data.specs.PlanRows.{with_groups}
use Rattle.board_rot.specs.Boards.{summary_now}
use Rattle.board_rot.specs.Kept.{seen}
use Rattle.board_rot.proofs.EditLaws.{led_same}
use Rattle.board_rot.proofs.BoardLaws.{board_more, groups_summary}
use Rattle.board_rot.proofs.board.RotBoardBoard.set_groups.Goals as goal

pub returns-clause-ok : goal.returns-clause-ok
returns-clause-ok g c Ps is =
    let I = c.args.inst.now in
    let P = c.args.plan.now in
    let r = c.args.res.0 in
    let e = c.self.inside.log in
    board_more I P (with_groups P r c.args.groups.now) Ps e e c.self.inside.savepoints.items c.push.new.self.items c.edits.result c.args.self.now c.self.view_is c.self.invariant (led_same (seen e)) c.edits.ensures c.in_ok-push.ensures.items
    (ap summary_now c.self.view_is ∙ is.now.summary ∙ sym (groups_summary I P r c.args.groups.now)) is

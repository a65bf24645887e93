use Rattle.std.proofs.Common.{◌∙◌, sym, ap}
use Rattle.desk_data.specs.PlanRows.{with_row}
use Rattle.board_rot.specs.Boards.{planes_on, summary_now}
use Rattle.board_rot.specs.Kept.{seen}
use Rattle.board_rot.proofs.BoardLaws.{board_more, summary_stands, row_fits}
use Rattle.board_rot.proofs.board.RotBoardBoard.set_row.Goals as goal

pub replace-requires-clause-summary : goal.replace-requires-clause-summary
replace-requires-clause-summary g c =
    summary_stands c.args.inst.now c.args.plan.now (seen c.self.inside.log) c.requires.plan
    (ap planes_on c.self.view_is ∙ c.requires.ready.board.now.planes) (ap summary_now c.self.view_is ∙ c.requires.ready.board.now.summary)

pub replace-requires-clause-had : goal.replace-requires-clause-had
replace-requires-clause-had g c = row_fits c.args.inst.now c.args.plan.now c.args.leg.0 c.row-had.result c.requires.plan c.requires.leg c.row-had.ensures.row

pub returns-in-Ok-clause-ok : goal.returns-in-Ok-clause-ok
returns-in-Ok-clause-ok g c Ps is =
    let I = c.args.inst.now in
    let P = c.args.plan.now in
    let old = c.self.inside.log in
    let new = c.replace.new.log in
    let summary = c.in-Ok.ensures.done P c.requires.plan (sym c.row-had.ensures.row) (ap summary_now c.self.view_is ∙ c.requires.ready.board.now.summary) in
    board_more I P (with_row P c.args.leg.0 c.args.row) Ps old new c.self.inside.savepoints.items c.push.new.self.items c.edits-before.result c.args.self.now c.self.view_is c.self.invariant c.replace.ensures.led c.edits-before.ensures c.in_ok-push.ensures.items summary is

use Rattle.desk_data.specs.PlanRows.{with_row}
use Rattle.desk_model.proofs.ValidLaws.{with_row-valid}
use Rattle.desk_tests.proofs.WalkLaws.{changed_to}
use Rattle.desk_tests.proofs.tests.walk.change_row.Goals as goal

pub returns : goal.returns
returns g c =
    let w = c.args.walk.now in
    let row = c.drawn_row-row.result in
    let x = c.below.result in
    changed_to g.B.Board.is_board_of c.args.inst.now w.board c.set_row.new.self w.pages (with_row w.pages x row) c.replace_row.new.self c.in_ok-before.before w.past.items c.push.new.self.items c.requires
    (with_row-valid c.args.inst.now w.pages x row c.drawn_row-row.ensures c.requires.valid)
    c.in_ok-set_row.ensures.ok c.in_ok-_page.ensures.ok c.in_ok-before.ensures c.in_ok-push.ensures.items

use Rattle.std.proofs.Common.{sym, ◌∙◌, arith}
use Rattle.plan_pages.proofs.PageLaws.{row_put}
use Rattle.plan_pages.proofs.changed.put_rows.Goals as goal

pub loop-x-preserved : goal.loop-x-preserved
loop-x-preserved c =
    row_put c.args.pages.now c.args.plan.now c.loop-x.pages c.put_row.new.pages c.loop-x.x c.read_row.result
    (sym c.requires.plan ∙ c.requires.pages) (omega (arith, c.loop-x-test.true, c.requires.plan)) c.loop-x.invariant c.read_row.ensures.row c.in_ok-put_row.ensures

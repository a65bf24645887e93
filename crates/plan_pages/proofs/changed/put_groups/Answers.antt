use Rattle.std.proofs.Common.{sym, ◌∙◌, arith}
use Rattle.plan_pages.proofs.PageLaws.{one_moved}
use Rattle.plan_pages.proofs.changed.put_groups.Goals as goal

pub loop-r-preserved : goal.loop-r-preserved
loop-r-preserved c =
    one_moved c.args.pages.now c.args.plan c.loop-r.pages c.loop-r.left c.move_groups.new.pages c.move_groups.new.plan c.loop-r.r
    (sym c.requires.plan ∙ c.requires.pages) (omega (arith, c.loop-r-test.true, c.requires.plan)) c.loop-r.invariant
    c.in_ok-move_groups.ensures.pages c.move_groups.ensures.long c.move_groups.ensures.others

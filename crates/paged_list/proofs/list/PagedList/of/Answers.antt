use Rattle.std.proofs.Common.{◌∙◌}
use Rattle.paged_list.proofs.PageLaws.{one_more}
use Rattle.paged_list.proofs.list.PagedList.of.Goals as goal

pub loop-left-preserved : goal.loop-left-preserved
loop-left-preserved g c =
    one_more c.args.items.now c.loop-left.pages.items c.push.new.self.items c.loop-left.left.now c.first_page.result.0.now c.in_ok-of.field-0 c.first_page.result.1.now
    c.loop-left.invariant c.loop-left-test.true c.first_page.ensures.items c.first_page.ensures.few c.first_page.ensures.full (c.in_ok-of.ensures ∙ c.in_ok-page.ensures) c.in_ok-push.ensures.items

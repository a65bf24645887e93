use Rattle.day_page.proofs.MadeLaws.{item_names}
use Rattle.day_page.proofs.made.made_page.Goals as goal

pub page_of-requires-clause-names : goal.page_of-requires-clause-names
page_of-requires-clause-names c = item_names c.args.inst.now c.args.plan.now c.in_ok-broken.broken c.in_ok-broken.ensures

use Rattle.day_page.proofs.MadeLaws.{item_names}
use Rattle.day_page.proofs.made.first_broken.Goals as goal

pub broken_text-requires : goal.broken_text-requires
broken_text-requires c = item_names c.args.inst.now c.args.plan.now c.in_ok-broken.broken c.in_ok-broken.ensures

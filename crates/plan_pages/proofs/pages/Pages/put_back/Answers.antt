use Rattle.std.proofs.Common.{subst}
use Rattle.plan_pages.specs.declared.page.What.{What}
use Rattle.plan_pages.specs.Pages.{IsPageOf, HasPlace}
use Rattle.plan_pages.proofs.PageLaws.{groups_back_sound}
use Rattle.plan_pages.proofs.pages.Pages.put_back.Goals as goal

pub invariant_of-self-in-Groups : goal.invariant_of-self-in-Groups
unfolding IsPageOf
invariant_of-self-in-Groups c =
    let has = subst (λ (what : What). HasPlace c.args.self.now what) c.in-Groups.is c.requires in
    groups_back_sound (record { rows = c.self.inside.rows; groups = c.self.inside.groups }) c.put_back-in-Groups.new.self c.in-Groups.page c.self.invariant (rw c.in-Groups.is at c.put_back-in-Groups.ensures) has.1

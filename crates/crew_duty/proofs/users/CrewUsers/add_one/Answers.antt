use Rattle.crew_duty.proofs.UserLaws.{user_pushed}
use Rattle.crew_duty.proofs.users.CrewUsers.add_one.Goals as goal

pub returns-clause-ok : goal.returns-clause-ok
returns-clause-ok c =
    user_pushed (λ of. of.items) c.self.inside.legs.items c.args.self.now c.args.leg.0 c.args.crew c.index_mut-kept.result.now c.push.new.self c.self.view_is c.requires c.index_mut-kept.ensures.value c.in_ok-push.ensures.items

use Rattle.board_kit.proofs.UserLaws.{res_exact, kept_less}
use Rattle.board_kit.proofs.users.LegUsers.take.Goals as goal

pub returns-clause-taken : goal.returns-clause-taken
returns-clause-taken c =
    kept_less c.self.inside.legs.items c.args.self.now c.args.leg.0 c.index_mut.result.now c.take.new.self c.args.res c.self.view_is c.requires c.index_mut.ensures.value (c.take.ensures.set res_exact)

use Rattle.std.proofs.Common.{not, ap, sym, ◌∙◌}
use Rattle.board_kit.specs.Users.{has_user}
use Rattle.board_kit.proofs.UserLaws.{res_exact, kept_reported, user_known}
use Rattle.board_kit.proofs.users.LegUsers.add.Goals as goal

pub returns-then-has-clause-ok : goal.returns-then-has-clause-ok
returns-then-has-clause-ok c =
    user_known (has_user c.args.self.now) c.args.leg.0 c.args.res.0
    (kept_reported c.self.inside.legs.items c.args.self.now c.args.leg.0 c.index.result.now c.args.res c.has.result c.self.view_is c.requires c.index.ensures (c.has.ensures res_exact) ∙ c.if-has.true)

pub returns-clause-added : goal.returns-clause-added
returns-clause-added c =
    sym (ap not (kept_reported c.self.inside.legs.items c.args.self.now c.args.leg.0 c.index.result.now c.args.res c.has.result c.self.view_is c.requires c.index.ensures (c.has.ensures res_exact) ∙ c.if-has.false))

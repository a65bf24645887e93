use Rattle.std.proofs.Common.{◌<◌, List, subst, sym, ◌∙◌}
use Rattle.std.specs.List.{AllPairs}
use Rattle.desk_units.specs.declared.numbers.Res.{Res}
use Rattle.board_kit.proofs.UserLaws.{ascending, kept_at, kept_within}
use Rattle.board_kit.proofs.users.LegUsers.users.Goals as goal

pub returns-clause-ascending : goal.returns-clause-ascending
returns-clause-ascending c = subst (λ (xs : List Res). AllPairs (λ a b. a.0 < b.0) xs) (sym c.items.ensures.items) (ascending c.index.result.now.items c.items.ensures.rising)

pub returns-clause-within : goal.returns-clause-within
returns-clause-within c P has =
    kept_within c.args.self.now c.args.leg.0 c.items.result.now P
    (kept_at c.self.inside.legs.items c.args.self.now c.args.leg.0 c.index.result.now c.self.view_is c.requires c.index.ensures ∙ sym c.items.ensures.items) has

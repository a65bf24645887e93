use Rattle.std.proofs.Common.{◌≡◌, rules, sym, ◌∙◌}
use Rattle.desk_data.specs.declared.row.Row.TheVariants.{Cancelled}
use Rattle.story_commands.proofs.CrewLaws.{row_own}
use Rattle.story_commands.proofs.crews.follow_leg.Goals as goal

pub returns-then-eq-clause-rows : goal.returns-then-eq-clause-rows
returns-then-eq-clause-rows c =
    let same : c.row.result ≡ c.args.row = search rules in
    sym (row_own c.args.board.now.rows c.args.leg.0 c.args.row Cancelled (sym same ∙ c.row.ensures))

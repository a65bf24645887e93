use Rattle.std.proofs.Common.{sym, ◌∙◌}
use Rattle.std.specs.Prelude.{Some}
use Rattle.desk_tasks.proofs.JudgeLaws.{item-names}
use Rattle.desk_tasks.proofs.run.file_and_report.Goals as goal

pub verdict_report-requires : goal.verdict_report-requires
verdict_report-requires c = item-names c.args.inst.now c.args.plan.now (Some c.in-Some.item) (sym c.in-Some.is ∙ c.requires.broken)

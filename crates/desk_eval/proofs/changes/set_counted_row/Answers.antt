use Rattle.desk_data.specs.PlanRows.{with_row}
use Rattle.desk_eval.proofs.BackLaws.{after-change, after-same}
use Rattle.desk_eval.proofs.changes.set_counted_row.Goals as goal

pub returns-in-Ok-clause-after : goal.returns-in-Ok-clause-after
returns-in-Ok-clause-after g c =
    let E = c.args.eval.now in
    after-change E c.set_row.new.self (with_row E.rows c.args.leg.0 c.args.row) c.in-Ok.ensures.ok

pub returns-clause-after : goal.returns-clause-after
returns-clause-after g c = after-same 1 c.args.eval.now c.set_row.new.self c.in-Err.ensures.err

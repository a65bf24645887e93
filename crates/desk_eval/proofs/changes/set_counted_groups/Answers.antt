use Rattle.desk_data.specs.PlanRows.{with_groups}
use Rattle.desk_eval.proofs.BackLaws.{after-change, after-same}
use Rattle.desk_eval.proofs.changes.set_counted_groups.Goals as goal

pub returns-in-Ok-clause-after : goal.returns-in-Ok-clause-after
returns-in-Ok-clause-after g c =
    let E = c.args.eval.now in
    after-change E c.set_groups.new.self (with_groups E.rows c.args.res.0 c.args.groups.items) c.in-Ok.ensures.ok

pub returns-clause-after : goal.returns-clause-after
returns-clause-after g c = after-same 1 c.args.eval.now c.set_groups.new.self c.in-Err.ensures.err

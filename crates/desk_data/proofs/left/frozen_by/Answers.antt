use Rattle.std.specs.Option.{option_or}
use Rattle.desk_data.specs.PlanRows.{row_at}
use Rattle.desk_data.specs.Progress.{leaving}
use Rattle.desk_data.specs.Situation.{frozen_at}
use Rattle.desk_data.proofs.LeftLemmas.{rows-more}
use Rattle.desk_data.proofs.left.frozen_by.Goals as goal

pub loop-x-preserved : goal.loop-x-preserved
loop-x-preserved c =
    rows-more (λ x. option_or (frozen_at c.args.inst.now x) (leaving c.args.inst.now c.args.at.0 x (row_at c.args.plan.now x))) c.loop-x.x c.row_at.result c.loop-x.frozen.items _ c.in_ok-push.ensures.items c.loop-x.invariant c.row_at.ensures

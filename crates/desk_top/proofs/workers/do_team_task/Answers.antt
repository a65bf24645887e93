use Rattle.std.proofs.Common.{◌≤◌, ◌∙◌, All, List, sym, subst}
use Rattle.day_orders.specs.declared.orders.Batch.{Batch}
use Rattle.desk_data.specs.Valid.{IsBatch}
use Rattle.desk_tasks.specs.Facts.{CanBeDone, CanRecover}
use Rattle.desk_top.proofs.workers.do_team_task.Goals as goal

-- each batch of the day can be taken
pub recover_by_team-requires-clause-asked : goal.recover_by_team-requires-clause-asked
recover_by_team-requires-clause-asked g c κs within =
    let can : CanRecover c.in-Team.recovery × (1 ≤ c.in-Team.workers) × (c.in-Team.workers ≤ 64) = subst CanBeDone c.in-Team.is c.requires.sound in
    subst (λ (batches : List Batch). All (IsBatch c.in-Team.recovery.inst.parts) batches) (sym (c.as_slice.ensures.value ∙ c.batches.view_is)) can.0.sound.asked

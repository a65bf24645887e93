use Rattle.std.proofs.Common.{◌∙◌, All, List, sym, subst}
use Rattle.day_orders.specs.declared.orders.Batch.{Batch}
use Rattle.desk_data.specs.Valid.{IsBatch}
use Rattle.desk_tasks.specs.Facts.{CanBeDone, CanRecover}
use Rattle.desk_top.proofs.plain.do_task.Goals as goal

-- each batch of the day can be taken
pub recover_day-requires-clause-asked : goal.recover_day-requires-clause-asked
recover_day-requires-clause-asked g c =
    let can : CanRecover c.in-Recover.recovery = subst CanBeDone c.in-Recover.is c.requires.sound in
    subst (λ (batches : List Batch). All (IsBatch c.in-Recover.recovery.inst.parts) batches) (sym (c.as_slice-in-Recover.ensures.value ∙ c.batches.view_is)) can.sound.asked

pub try_day-requires-clause-asked : goal.try_day-requires-clause-asked
try_day-requires-clause-asked g c =
    let can : CanRecover c.in-Try.recovery = subst CanBeDone c.in-Try.is c.requires.sound in
    subst (λ (batches : List Batch). All (IsBatch c.in-Try.recovery.inst.parts) batches) (sym (c.as_slice-in-Try.ensures.value ∙ c.batches-in-Try.view_is)) can.sound.asked
